-- Shown: an entry that names the earliest shortcut tells the halves of the link by the first n shortcuts.
--   below_n  a number counted from 1, if it is one of the first n
--   told     the halves that an entry tells
use Rattle.std.proofs.Common.{◌≡◌, ℕ, ◌<◌, ◌≤◌, zero, suc, true, false, cond, ltb, List, [], ◌∷◌, take, is_some, None, Option, sym, refl, ap, ◌∙◌, inl, inr, arith}
use Rattle.std.proofs.lemmas.Bool.{cases_lt, lt-ltb, le-ltb}
use Rattle.cost.specs.declared.Cost.{Ghosts as Costs}
use Rattle.hierarchy.specs.declared.Shortcut.{Shortcut}
use Rattle.hierarchy.specs.Books.{joins}
use Rattle.levelling.specs.declared.book.Book.{Book}
use Rattle.levelling.specs.declared.entry.Entry.{Entry}
use Rattle.levelling.specs.declared.entry.Entry.TheVariants.{Apart, Way, Shortcut as By}
use Rattle.levelling.specs.declared.book.halves.Halves.{Halves}
use Rattle.levelling.specs.Entries.{next, named, number_between, entry_at, entry_between}
use Rattle.levelling.specs.Meaning.{way_in, meaning}
use Rattle.std.specs.List.{slice_get}
use Rattle.std.specs.Option.{option_map}
use Rattle.levelling.specs.Halves.{halved, halves_at, halves_before}
use Rattle.levelling.proofs.Pairs.{both_tell}

abbrev pub below_n : ℕ → ℕ → ℕ
below_n n zero = 0
below_n n (suc k) = cond (ltb k n) (suc k) 0

below_none : (m : ℕ) → 0 ≡ below_n 0 m
below_none zero = refl
below_none (suc k) = rw (le-ltb k 0 (omega arith))

below_next : (n m : ℕ) → next (below_n n m) ≡ below_n (suc n) (next m)
below_next n zero = refl
below_next n (suc k) = elim (cases_lt k n) [
  | inl h ↦ rw (lt-ltb k n h, lt-ltb (suc k) (suc n) (omega arith))
  | inr h ↦ rw (le-ltb k n h, le-ltb (suc k) (suc n) (omega arith))
]

pub number_first : {C : Type 0} (n : ℕ) (l : List (Shortcut C)) (a b : ℕ) → number_between (take n l) a b ≡ below_n n (number_between l a b)
number_first zero l a b = below_none (number_between l a b)
number_first (suc n) [] a b = refl
number_first (suc n) (s ∷ l) a b =
    elim (joins s a b) as (λ t. cond t 1 (next (number_between (take n l) a b)) ≡ below_n (suc n) (cond t 1 (next (number_between l a b))))
    [ true ↦ rw (lt-ltb 0 (suc n) (omega arith)) | false ↦ ap next (number_first n l a b) ∙ below_next n (number_between l a b) ]

abbrev pub told : {C : Type 0} → List (Shortcut C) → ℕ → Entry C → Option Halves
told l n Apart = None
told l n (Way c) = None
told l n (By k) = cond (ltb k n) (halves_at l (suc k)) None

at_below : {C : Type 0} (l : List (Shortcut C)) (n k : ℕ) → halves_at l (below_n n (suc k)) ≡ cond (ltb k n) (halves_at l (suc k)) None
at_below l n k = elim (ltb k n) as (λ t. halves_at l (cond t (suc k) 0) ≡ cond t (halves_at l (suc k)) None) [ true ↦ refl | false ↦ refl ]

pub entry_tells : {C : Type 0} (l : List (Shortcut C)) (n a b : ℕ) (entry : Entry C) →
    named entry (number_between l a b) ≡ number_between l a b →
    told l n entry ≡ cond (is_some (way_in entry)) None (halves_at l (number_between (take n l) a b))
entry_tells l n a b Apart e = sym (ap (halves_at l) (number_first n l a b ∙ ap (below_n n) (sym e)))
entry_tells l n a b (Way c) e = refl
entry_tells l n a b (By k) e = sym (ap (halves_at l) (number_first n l a b ∙ ap (below_n n) (sym e)) ∙ at_below l n k)

-- an entry that is no shortcut tells no halves
pub tells_none : {C : Type 0} (l : List (Shortcut C)) (n : ℕ) (entry : Entry C) → ((k : ℕ) → entry ≡ By k → ⊥) → None ≡ told l n entry
tells_none l n Apart other = refl
tells_none l n (Way c) other = refl
tells_none l n (By k) other = absurd (other k refl)

-- what is read of a book between two places
pub between_tells : {C : Type 0} (k : Costs C) (book : Book C) (a b n : ℕ) (entry : Entry C) → entry ≡ entry_between book.entries.cells a b →
    told book.shortcuts.items n entry ≡ halves_before (meaning k book) n a b
between_tells k book a b n entry is = rw is (elim (both_tell a b) [
  | inl h ↦ rw h.0 (entry_tells book.shortcuts.items n a b (entry_at book.entries.cells a b) (book.indexed a b h.1))
  | inr h ↦ rw h.0
])

-- an entry that names shortcut j, by j as it was widened: no halves where that is not one of the first n, and else those of the shortcut
module _ {C : Type 0} (k : Costs C) (book : Book C) (a b n : ℕ) (entry : Entry C) (is : entry ≡ entry_between book.entries.cells a b) (j m : ℕ) (by : entry ≡ By j) (wide : m ≡ j) where
  told_by : told book.shortcuts.items n (By m) ≡ halves_before (meaning k book) n a b
  told_by = ap (λ i. told book.shortcuts.items n (By i)) wide ∙ between_tells k book a b n _ (sym by ∙ is)

  pub told_late : n ≤ m → None ≡ halves_before (meaning k book) n a b
  told_late late = rw (le-ltb m n late) at told_by

  pub told_early : (found : Option (Shortcut C)) → found ≡ slice_get book.shortcuts.items m → m < n → option_map (halved m) found ≡ halves_before (meaning k book) n a b
  told_early found f early = ap (option_map (halved m)) f ∙ (rw (lt-ltb m n early) at told_by)
