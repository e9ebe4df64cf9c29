-- Shown: the entry of two places tells their link.
--   price_in  the cost that an entry gives, where the shortcuts are these
use Rattle.std.proofs.Common.{◌≡◌, ℕ, suc, ◌<◌, min, false, not, ◌&&◌, eqb, ltb, List, Some, None, Option, sym, refl, ap, ◌∙◌, inl, inr, arith}
use Rattle.std.specs.List.{slice_get}
use Rattle.std.specs.Option.{option_map}
use Rattle.std.proofs.lemmas.Bool.{cases_lt, lt-ltb, le-ltb, ne_eqb, and_left, and_right, cond-false}
use Rattle.ground.specs.Earliest.{or_else}
use Rattle.cost.specs.declared.Cost.{Ghosts as Costs}
use Rattle.hierarchy.specs.declared.Shortcut.{Shortcut}
use Rattle.hierarchy.specs.Books.{shortcut_between, link_among}
use Rattle.levelling.specs.declared.book.Book.{Book}
use Rattle.levelling.specs.declared.entry.Entry.{Entry}
use Rattle.levelling.specs.declared.entry.Entry.TheVariants.{Apart, Way, Shortcut as By}
use Rattle.levelling.specs.Entries.{number_between, entry_at, entry_between, named}
use Rattle.levelling.specs.Meaning.{way_in, meaning}
use Rattle.levelling.proofs.Pairs.{both_tell}
use Rattle.levelling.proofs.Numbers.{at_number, found_by_number}

abbrev pub price_in : {C : Type 0} → List (Shortcut C) → Entry C → Option C
price_in l Apart = None
price_in l (Way c) = Some c
price_in l (By k) = option_map (λ s. s.cost) (slice_get l k)

-- the cost of the shortcut of a number
by_number : {C : Type 0} (l : List (Shortcut C)) (a b n : ℕ) → n ≡ number_between l a b →
    option_map (λ s. s.cost) (shortcut_between l a b) ≡ option_map (λ s. s.cost) (at_number l n)
by_number l a b n h = rw (found_by_number l a b, h)

entry_tells : {C : Type 0} (l : List (Shortcut C)) (a b : ℕ) (e : Entry C) → named e (number_between l a b) ≡ number_between l a b →
    or_else (way_in e) (option_map (λ s. s.cost) (shortcut_between l a b)) ≡ price_in l e
entry_tells l a b Apart h = by_number l a b 0 h
entry_tells l a b (Way c) h = refl
entry_tells l a b (By k) h = by_number l a b (suc k) h

-- no two places are both below a size that is at most 256 where one is not below 256
far : (n a b : ℕ) → ((a < 256) × (b < 256) → ⊥) → (ltb a (min n 256) && (ltb b (min n 256) && not (eqb a b))) ≡ false
far n a b h = elim (cases_lt a 256) [
  | inl x ↦ elim (cases_lt b 256) [
    | inl y ↦ absurd (h (x, y))
    | inr y ↦ and_right (ltb a (min n 256)) _ (and_left _ _ (le-ltb b (min n 256) (omega arith)))
  ]
  | inr x ↦ and_left _ _ (le-ltb a (min n 256) (omega arith))
]

module _ {C : Type 0} (book : Book C) (a b : ℕ) (entry : Entry C) (is : entry ≡ entry_between book.entries.cells a b) where
  pub link_is : (k : Costs C) (n : ℕ) → a < n → b < n → (a ≡ b → ⊥) → price_in book.shortcuts.items entry ≡ link_among (min n 256) (meaning k book) a b
  link_is k n la lb apart = rw is (elim (both_tell a b) [
    | inl h ↦
        rw (lt-ltb a (min n 256) (omega (arith, h.1)), lt-ltb b (min n 256) (omega (arith, h.1)), ne_eqb a b apart, h.0)
        (sym (entry_tells _ a b (entry_at book.entries.cells a b) (book.indexed a b h.1)))
    | inr h ↦ rw h.0 (sym (cond-false _ _ None (far n a b h.1)))
  ])

  -- the same, where the entry names a shortcut that is looked for by its number
  pub link_of : (j m : ℕ) (found : Option (Shortcut C)) → entry ≡ By j → m ≡ j → found ≡ slice_get book.shortcuts.items m →
      (k : Costs C) (n : ℕ) → a < n → b < n → (a ≡ b → ⊥) → option_map (λ s. s.cost) found ≡ link_among (min n 256) (meaning k book) a b
  link_of j m found by wide f k n la lb apart =
      ap (option_map (λ s. s.cost)) (f ∙ ap (slice_get book.shortcuts.items) wide) ∙ ap (price_in book.shortcuts.items) (sym by) ∙ link_is k n la lb apart
