-- Shown: a link that is not divided is laid out as it is, and one that is divided by its halves, each by the shortcuts before it.
--   then_at  the number of the earliest shortcut if one more is looked at, counted from 1
--   over     the places of a link, by its halves
use Rattle.std.proofs.Common.{◌≡◌, ℕ, zero, suc, ◌<◌, Bool, true, false, cond, ◌&&◌, ltb, List, [], ◌∷◌, ◌++◌, take, is_some, Some, None, Option, Result, sym, refl, ap, ◌∙◌, subst, arith, length-take}
use Rattle.std.specs.Bool.{⊤}
use Rattle.std.proofs.lemmas.Bool.{lt-ltb}
use Rattle.std.specs.List.{slice_get}
use Rattle.std.specs.Option.{option_map}
use Rattle.hierarchy.specs.declared.Shortcut.{Shortcut}
use Rattle.hierarchy.specs.Kinds.{Kind}
use Rattle.hierarchy.specs.Books.{Book, joins, shortcut_between}
use Rattle.hierarchy.specs.Layouts.{lay_by}
use Rattle.levelling.specs.declared.book.halves.Halves.{Halves}
use Rattle.levelling.specs.declared.full.Full.{Full}
use Rattle.levelling.specs.Entries.{next, number_between}
use Rattle.levelling.specs.Halves.{halved, halves_at, halves_before, MiddlesNear}
use Rattle.levelling.proofs.Numbers.{number_within}
use Rattle.routing.specs.Placed.{Appended}

abbrev positive : ℕ → Bool
positive zero = false
positive (suc k) = true

positive_next : (n : ℕ) → positive n ≡ positive (next n)
positive_next zero = refl
positive_next (suc k) = refl

some_none : {A : Type 0} {x : A} → Some x ≡ None → ⊥
some_none e = let z : ◌≡◌ {A = ℕ} 0 1 = cc in omega arith

unguarded : {A : Type 0} {x : A} (t u : Bool) (o : Option A) → Some x ≡ cond t (cond u None o) None → Some x ≡ o
unguarded true true o e = absurd (some_none e)
unguarded true false o e = e
unguarded false u o e = absurd (some_none e)

module _ {C : Type 0} (x y : ℕ) where
  abbrev then_at : ℕ → Option (Shortcut C) → ℕ → ℕ
  then_at zero None k = 0
  then_at zero (Some s) k = cond (joins s x y) (suc k) 0
  then_at (suc j) o k = suc j

  next_then : (n : ℕ) (o : Option (Shortcut C)) (k : ℕ) → next (then_at n o k) ≡ then_at (next n) o (suc k)
  next_then zero None k = refl
  next_then zero (Some s) k = elim (joins s x y) as (λ t. next (cond t (suc k) 0) ≡ cond t (suc (suc k)) 0) [ true ↦ refl | false ↦ refl ]
  next_then (suc j) o k = refl

  number_more : (l : List (Shortcut C)) (k : ℕ) → number_between (take (suc k) l) x y ≡ then_at (number_between (take k l) x y) (slice_get l k) k
  number_more [] zero = refl
  number_more [] (suc k) = refl
  number_more (s ∷ l) zero = refl
  number_more (s ∷ l) (suc k) =
      elim (joins s x y) as (λ t. cond t 1 (next (number_between (take (suc k) l) x y)) ≡ then_at (cond t 1 (next (number_between (take k l) x y))) (slice_get l k) (suc k))
      [ true ↦ refl | false ↦ ap next (number_more l k) ∙ next_then (number_between (take k l) x y) (slice_get l k) k ]

  found_numbered : (l : List (Shortcut C)) → is_some (shortcut_between l x y) ≡ positive (number_between l x y)
  found_numbered [] = refl
  found_numbered (s ∷ l) =
      elim (joins s x y) as (λ t. is_some (cond t (Some s) (shortcut_between l x y)) ≡ positive (cond t 1 (next (number_between l x y))))
      [ true ↦ refl | false ↦ found_numbered l ∙ positive_next (number_between l x y) ]

module _ {K : Kind} (book : Book K) (x y : ℕ) where
  abbrev pub over : Option Halves → List ℕ
  over None = y ∷ []
  over (Some h) = lay_by book h.number x h.middle ++ lay_by book h.number h.middle y

  abbrev by_number : ℕ → List ℕ
  by_number n = over (halves_at book.shortcuts n)

  -- shortcut number k, if no earlier one joins the two places
  last_laid : (k : ℕ) (o : Option (Shortcut K.C)) → slice_get book.shortcuts k ≡ o →
      elim o as (λ p. List ℕ) [ None ↦ y ∷ [] | Some s ↦ cond (joins s x y) (lay_by book k x s.middle ++ lay_by book k s.middle y) (y ∷ []) ] ≡
      by_number (then_at x y 0 o k)
  last_laid k None e = refl
  last_laid k (Some s) e =
      elim (joins s x y) as (λ t. cond t (lay_by book k x s.middle ++ lay_by book k s.middle y) (y ∷ []) ≡ by_number (cond t (suc k) 0))
      [ true ↦ rw e | false ↦ refl ]

  one_more : (k n : ℕ) → lay_by book k x y ≡ by_number n →
      cond (positive n) (lay_by book k x y)
      (elim (slice_get book.shortcuts k) [ None ↦ y ∷ [] | Some s ↦ cond (joins s x y) (lay_by book k x s.middle ++ lay_by book k s.middle y) (y ∷ []) ]) ≡
      by_number (then_at x y n (slice_get book.shortcuts k) k)
  one_more k zero e = last_laid k (slice_get book.shortcuts k) refl
  one_more k (suc j) e = e

  first_laid : (n : ℕ) → lay_by book n x y ≡ over (cond (is_some (book.kept x y)) None (halves_at book.shortcuts (number_between (take n book.shortcuts) x y)))
  first_laid zero = elim (is_some (book.kept x y)) as (λ t. y ∷ [] ≡ over (cond t None None)) [ true ↦ refl | false ↦ refl ]
  first_laid (suc k) = go (is_some (book.kept x y)) (first_laid k)
    where
      go : (t : Bool) → lay_by book k x y ≡ over (cond t None (halves_at book.shortcuts (number_between (take k book.shortcuts) x y))) →
          cond t (y ∷ []) (cond (is_some (shortcut_between (take k book.shortcuts) x y)) (lay_by book k x y)
          (elim (slice_get book.shortcuts k) [ None ↦ y ∷ [] | Some s ↦ cond (joins s x y) (lay_by book k x s.middle ++ lay_by book k s.middle y) (y ∷ []) ])) ≡
          over (cond t None (halves_at book.shortcuts (number_between (take (suc k) book.shortcuts) x y)))
      go true e = refl
      go false e = rw (number_more x y book.shortcuts k, found_numbered x y (take k book.shortcuts)) (one_more k _ e)

  -- what is appended by the halves is appended by the link
  pub laid_by_halves : (n : ℕ) (o : Option Halves) → (x < 256) × (y < 256) → o ≡ halves_before book n x y →
      (r : Result ⊤ Full) (old new : List ℕ) → Appended r old (over o) new → Appended r old (lay_by book n x y) new
  laid_by_halves n o (h, w) e r old new =
      subst (λ m. Appended r old m new) (ap over e ∙ rw (lt-ltb x 256 h, lt-ltb y 256 w) (sym (first_laid n)))

  numbered : (m : ℕ) (h : Halves) → Some h ≡ halves_at book.shortcuts m →
      (s : Shortcut K.C) × (slice_get book.shortcuts h.number ≡ Some s) × (h.middle ≡ s.middle) × (suc h.number ≡ m)
  numbered zero h e = absurd (some_none e)
  numbered (suc k) h e = go (slice_get book.shortcuts k) refl e
    where
      go : (o : Option (Shortcut K.C)) → slice_get book.shortcuts k ≡ o → Some h ≡ option_map (halved k) o →
          (s : Shortcut K.C) × (slice_get book.shortcuts h.number ≡ Some s) × (h.middle ≡ s.middle) × (suc h.number ≡ suc k)
      go None f g = absurd (some_none g)
      go (Some s) f g = let same : h ≡ halved k s = cc in (s, ap (λ t. slice_get book.shortcuts t.number) same ∙ f, ap (λ t. t.middle) same, ap (λ t. suc t.number) same)

  module _ (n : ℕ) (h : Halves) (e : Some h ≡ halves_before book n x y) where
    shortcut : (s : Shortcut K.C) × (slice_get book.shortcuts h.number ≡ Some s) × (h.middle ≡ s.middle) × (suc h.number ≡ number_between (take n book.shortcuts) x y)
    shortcut = numbered _ h (unguarded (ltb x 256 && ltb y 256) (is_some (book.kept x y)) _ e)

    -- the halves are divided at a place below 256, and laid out by fewer shortcuts
    pub near_and_less : MiddlesNear book.shortcuts → (h.middle < 256) × (h.number < n)
    near_and_less near = (
      rw shortcut.2 (near h.number shortcut.0 shortcut.1),
      omega (arith, shortcut.3, number_within (take n book.shortcuts) x y, length-take n book.shortcuts),
    )
