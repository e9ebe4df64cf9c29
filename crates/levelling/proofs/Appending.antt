-- Shown: once a shortcut comes last, its places have its number unless they were linked, and every way is kept.
use Rattle.std.proofs.Common.{◌≡◌, ℕ, zero, suc, Bool, true, false, cond, ◌&&◌, ◌||◌, eqb, List, [], ◌∷◌, ◌++◌, length, refl, ap, ◌∙◌, arith}
use Rattle.std.proofs.lemmas.Bool.Decides.{nat_tests}
use Rattle.hierarchy.specs.declared.Shortcut.{Shortcut}
use Rattle.hierarchy.specs.Books.{joins}
use Rattle.levelling.specs.declared.book.Book.{Book}
use Rattle.levelling.specs.declared.entries.Entries.{Entries}
use Rattle.levelling.specs.declared.entry.Entry.{Entry}
use Rattle.levelling.specs.declared.entry.Entry.TheVariants.{Apart, Way, Shortcut as By}
use Rattle.levelling.specs.Entries.{number_between, entry_at, named, Indexed, or_by, entered}
use Rattle.levelling.proofs.Numbers.{then_number, number_last}
use Rattle.levelling.proofs.Pairs.{entered_at}
use Rattle.levelling.proofs.Writing.{kept_in, entered_keeps}

-- setting the same entry twice over
twice : {C : Type 0} (e : Entry C) (p q : Bool) (n : ℕ) → cond q (or_by (cond p (or_by e n) e) n) (cond p (or_by e n) e) ≡ cond (p || q) (or_by e n) e
twice e false q n = refl
twice e true false n = refl
twice Apart true true n = refl
twice (Way c) true true n = refl
twice (By k) true true n = refl

names_last : {C : Type 0} (e : Entry C) (m : ℕ) (joined : Bool) (n : ℕ) → named e m ≡ m → named (cond joined (or_by e n) e) (then_number m joined n) ≡ then_number m joined n
names_last Apart zero true n h = refl
names_last Apart zero false n h = refl
names_last Apart (suc k) joined n h = absurd (omega arith)
names_last (Way c) m true n h = refl
names_last (Way c) m false n h = refl
names_last (By k) zero joined n h = absurd (omega arith)
names_last (By k) (suc m) true n h = h
names_last (By k) (suc m) false n h = h

joins-pairs : {C : Type 0} (s : Shortcut C) (a b : ℕ) → joins s a b ≡ ((eqb a s.smaller && eqb b s.larger) || (eqb a s.larger && eqb b s.smaller))
joins-pairs s a b = grind (arith, nat_tests)

last_indexed : {C : Type 0} (entries once : Entries C) (l : List (Shortcut C)) (s : Shortcut C) → once.cells ≡ entered entries.cells s.smaller s.larger (length l) →
    Indexed entries.cells l → Indexed (entered once.cells s.larger s.smaller (length l)) (l ++ (s ∷ []))
last_indexed entries once l s there inv a b h =
    let x = s.smaller in
    let y = s.larger in
    let n = length l in
    let e = entry_at entries.cells a b in
    let first = ap (λ c. entry_at c a b) there ∙ entered_at entries.cells x y n a b entries.long h.0 h.1 in
    let both = entered_at once.cells y x n a b once.long h.0 h.1 in
    rw (both, first, twice e (eqb a x && eqb b y) (eqb a y && eqb b x) n, ← joins-pairs s a b, number_last l s a b)
    (names_last e (number_between l a b) (joins s a b) n (inv a b h))

-- what a book holds once a shortcut comes last and both its pairs have been entered
module _ {C : Type 0} (book : Book C) (s : Shortcut C) (once : Entries C) (both : List (Entry C))
    (there : once.cells ≡ entered book.entries.cells s.smaller s.larger (length book.shortcuts.items)) (back : both ≡ entered once.cells s.larger s.smaller (length book.shortcuts.items)) where
  pub keeps_ways : kept_in both ≡ kept_in book.entries.cells
  keeps_ways =
      ap kept_in back ∙ entered_keeps once s.larger s.smaller _ ∙ ap kept_in there ∙ entered_keeps book.entries s.smaller s.larger _

  pub still_indexed : Indexed both (book.shortcuts.items ++ (s ∷ []))
  still_indexed = rw back (last_indexed book.entries once book.shortcuts.items s there book.indexed)
