-- Shown: a list of places below n in which no place stands twice has at most n places.
use Rattle.std.proofs.Common.{◌≡◌, ℕ, zero, suc, ◌+◌, ◌<◌, ◌≤◌, Bool, false, ◌||◌, eqb, List, [], ◌∷◌, length, sym, refl, ap, ◌∙◌, arith}
use Rattle.std.proofs.lemmas.Bool.{ne_eqb, or_from}
use Rattle.std.specs.List.{AllByRecursion as All}
use Rattle.ground.specs.Counts.{count}
use Rattle.hierarchy.specs.Chains.{Without}
use Rattle.hierarchy.specs.LeastWalks.{Distinct}
use Rattle.hierarchy.proofs.SearchCounts.{count_bound, count-one_more}

-- x stands in the list
abbrev among : List ℕ → ℕ → Bool
among [] x = false
among (y ∷ l) x = eqb x y || among l x

among_not : (v : ℕ) (l : List ℕ) → Without v l → among l v ≡ false
among_not v [] h = refl
among_not v (y ∷ l) h = or_from (eqb v y) (among l v) (ne_eqb v y (λ e. h.0 (sym e))) (among_not v l h.1)

count_none : (n : ℕ) → count (λ x. false) n ≡ 0
count_none zero = refl
count_none (suc n) = ap (λ k. k + 0) (count_none n)

count_among : (n : ℕ) (l : List ℕ) → Distinct l → All (λ x. x < n) l → count (among l) n ≡ length l
count_among n [] h k = count_none n
count_among n (y ∷ l) h k = count-one_more (among l) y (among_not y l h.0) n k.0 ∙ ap suc (count_among n l h.1 k.1)

pub distinct_few : (n : ℕ) (l : List ℕ) → Distinct l → All (λ x. x < n) l → length l ≤ n
distinct_few n l h k = omega (arith, count_among n l h k, count_bound (among l) n)
