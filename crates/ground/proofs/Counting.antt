-- Shown: counting over the numbers below n, as a chain from 0 on does, is what `count` and `count_pairs` say.
use Rattle.std.proofs.Common.{◌≡◌, ℕ, zero, suc, ◌+◌, ◌*◌, ◌≤◌, ◌<◌, Bool, true, false, not, cond, [], ◌∷◌, ◌++◌, map, length, filter, sym, refl, ap, ◌∙◌, add-one, length-append, arith}
use Rattle.std.proofs.lemmas.Bool.{lt-ltb}
use Rattle.std.proofs.lemmas.List.{map-id}
use Rattle.std.specs.List.{range_with_len, sum}
use Rattle.std.proofs.lemmas.List.FromFn.{sum_by-map-range_with_len_more, filter_of_map_range_with_len_more}
use Rattle.ground.specs.Counts.{count, count_pairs}
use Rattle.ground.specs.Marks.{free_under}

length_one : (b : Bool) (n : ℕ) → length (cond b (n ∷ []) []) ≡ cond b 1 0
length_one true n = refl
length_one false n = refl

filter_more : (p : ℕ → Bool) (n : ℕ) → filter p (range_with_len 0 (n + 1)) ≡ filter p (range_with_len 0 n) ++ cond (p n) (n ∷ []) []
filter_more p n = simp map-id at (filter_of_map_range_with_len_more p (λ k. k) 0 n n (omega arith))

pub count_below : (p : ℕ → Bool) (n : ℕ) → length (filter p (range_with_len 0 n)) ≡ count p n
count_below p zero = refl
count_below p (suc n) =
    ap (λ m. length (filter p (range_with_len 0 m))) (sym (add-one n))
    ∙ ap length (filter_more p n)
    ∙ length-append (filter p (range_with_len 0 n)) _
    ∙ (λ i. count_below p n i + length_one (p n) n i)

count_same : (p q : ℕ → Bool) (n : ℕ) → ((k : ℕ) → k < n → p k ≡ q k) → count p n ≡ count q n
count_same p q zero e = refl
count_same p q (suc n) e = rw (count_same p q n (λ k l. e k (omega arith)), e n (omega arith))

-- the free places are those on the ground that are not shut
pub count_free : (s : ℕ → Bool) (n : ℕ) → count (λ k. not (s k)) n ≡ count (free_under n s) n
count_free s n = count_same _ _ n (λ k l. rw (lt-ltb k n l))

pub ones_below : (p : ℕ → Bool) (n : ℕ) → sum (map (λ k. cond (p k) 1 0) (range_with_len 0 n)) ≡ count p n
ones_below p zero = refl
ones_below p (suc n) = simp add-one at (sum_by-map-range_with_len_more (λ x. x) (λ k. cond (p k) 1 0) 0 n n (omega arith)) ∙ ap (λ m. m + cond (p n) 1 0) (ones_below p n)

pub pairs_below : (p : ℕ → ℕ → Bool) (n : ℕ) → sum (map (λ k. count (λ a. p a k) k) (range_with_len 0 n)) ≡ count_pairs p n
pairs_below p zero = refl
pairs_below p (suc n) = simp add-one at (sum_by-map-range_with_len_more (λ x. x) (λ k. count (λ a. p a k) k) 0 n n (omega arith)) ∙ ap (λ m. m + count (λ a. p a n) n) (pairs_below p n)

pub count_few : (p : ℕ → Bool) (n : ℕ) → count p n ≤ n
count_few p zero = omega arith
count_few p (suc n) = grind (arith, count_few p n)

pub pairs_few : (p : ℕ → ℕ → Bool) (m n : ℕ) → n ≤ m → count_pairs p n ≤ n * m
pairs_few p m zero l = omega arith
pairs_few p m (suc n) l = omega (arith, pairs_few p m n (omega arith), count_few (λ a. p a n) n)
