-- Shown: the number of the earliest shortcut between two places finds that shortcut, and stays when another comes last.
--   at_number    the shortcut of a number, as `number_between` tells it
--   then_number  that number, or if there is none that of the last shortcut if it joins them
use Rattle.std.proofs.Common.{◌≡◌, ℕ, zero, suc, ◌≤◌, Bool, true, false, cond, List, [], ◌∷◌, ◌++◌, length, Some, None, Option, sym, refl, ap, ◌∙◌, arith}
use Rattle.std.specs.List.{slice_get}
use Rattle.hierarchy.specs.declared.Shortcut.{Shortcut}
use Rattle.hierarchy.specs.Books.{joins, shortcut_between}
use Rattle.levelling.specs.Entries.{next, number_between}

abbrev pub at_number : {C : Type 0} → List (Shortcut C) → ℕ → Option (Shortcut C)
at_number l zero = None
at_number l (suc k) = slice_get l k

abbrev pub then_number : ℕ → Bool → ℕ → ℕ
then_number zero joined n = cond joined (suc n) 0
then_number (suc k) joined n = suc k

at_next : {C : Type 0} (s : Shortcut C) (l : List (Shortcut C)) (n : ℕ) → at_number (s ∷ l) (next n) ≡ at_number l n
at_next s l zero = refl
at_next s l (suc k) = refl

pub found_by_number : {C : Type 0} (l : List (Shortcut C)) (a b : ℕ) → shortcut_between l a b ≡ at_number l (number_between l a b)
found_by_number [] a b = refl
found_by_number (s ∷ l) a b =
    elim (joins s a b) as (λ t. cond t (Some s) (shortcut_between l a b) ≡ at_number (s ∷ l) (cond t 1 (next (number_between l a b))))
    [ true ↦ refl | false ↦ found_by_number l a b ∙ sym (at_next s l (number_between l a b)) ]

next-within : (n m : ℕ) → n ≤ m → next n ≤ suc m
next-within zero m h = omega arith
next-within (suc k) m h = omega arith

pub number_within : {C : Type 0} (l : List (Shortcut C)) (a b : ℕ) → number_between l a b ≤ length l
number_within [] a b = omega arith
number_within (s ∷ l) a b =
    elim (joins s a b) as (λ t. cond t 1 (next (number_between l a b)) ≤ suc (length l))
    [ true ↦ omega arith | false ↦ next-within _ _ (number_within l a b) ]

next_then : (n m : ℕ) (joined : Bool) → next (then_number n joined m) ≡ then_number (next n) joined (suc m)
next_then zero m true = refl
next_then zero m false = refl
next_then (suc k) m joined = refl

pub number_last : {C : Type 0} (l : List (Shortcut C)) (s : Shortcut C) (a b : ℕ) →
    number_between (l ++ (s ∷ [])) a b ≡ then_number (number_between l a b) (joins s a b) (length l)
number_last [] s a b = refl
number_last (t ∷ l) s a b =
    elim (joins t a b) as (λ u. cond u 1 (next (number_between (l ++ (s ∷ [])) a b)) ≡ then_number (cond u 1 (next (number_between l a b))) (joins s a b) (suc (length l)))
    [ true ↦ refl | false ↦ ap next (number_last l s a b) ∙ next_then (number_between l a b) (length l) (joins s a b) ]
