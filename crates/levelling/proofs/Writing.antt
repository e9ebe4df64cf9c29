-- Shown: what becomes of the entries and of what the book means.
use Rattle.std.proofs.Common.{◌≡◌, ℕ, zero, suc, ◌+◌, ◌*◌, Bool, true, false, cond, ◌&&◌, eqb, ltb, List, [], get_or, replicate, None, Option, refl, ap, ◌∙◌, inl, inr, arith}
use mathlib.Core.Path.{fun_ext}
use Rattle.hierarchy.specs.declared.Shortcut.{Shortcut}
use Rattle.hierarchy.specs.Kinds.{Kind}
use Rattle.hierarchy.specs.Books.{Book as Meant}
use Rattle.levelling.specs.declared.entries.Entries.{Entries}
use Rattle.levelling.specs.declared.entry.Entry.{Entry}
use Rattle.levelling.specs.declared.entry.Entry.TheVariants.{Apart, Way, Shortcut as By}
use Rattle.levelling.specs.Entries.{number_between, entry_at, named, Indexed, or_by, with_entry, entered}
use Rattle.levelling.specs.Meaning.{way_in, put_price}
use Rattle.levelling.proofs.Pairs.{both_tell, pair_tells, with_entry_at}
use Rattle.levelling.proofs.Rewriting.{put_same}

-- what is alike in its parts is one book
pub alike : {K : Kind} {m n : Meant K} → m.level ≡ n.level → m.kept ≡ n.kept → m.shortcuts ≡ n.shortcuts → m ≡ n
alike p q r = λ i. record { level = p i; kept = q i; shortcuts = r i }

-- every element of a list of equal ones is that one, and so is what stands past them
pub all_same : {A : Type 0} (n : ℕ) (x : A) (i : ℕ) → get_or (replicate n x) i x ≡ x
all_same zero x i = refl
all_same (suc n) x zero = refl
all_same (suc n) x (suc i) = all_same n x i

-- the ways that the entries keep
abbrev pub kept_in : {C : Type 0} → List (Entry C) → ℕ → ℕ → Option C
kept_in entries a b = cond (ltb a 256 && ltb b 256) (way_in (entry_at entries a b)) None

-- nothing is linked where all are apart
pub apart_keeps : (C : Type 0) (n : ℕ) → kept_in {C = C} (replicate n Apart) ≡ (λ a b. None)
apart_keeps C n = fun_ext (λ a. fun_ext (λ b.
    rw (all_same {A = Entry C} n Apart (a * 256 + b)) (either (ltb a 256 && ltb b 256))))
  where
    either : (t : Bool) → cond {A = Option C} t None None ≡ None
    either true = refl
    either false = refl

pub apart_indexed : {C : Type 0} (n : ℕ) (entries : List (Entry C)) (l : List (Shortcut C)) → entries ≡ replicate n Apart → l ≡ [] → Indexed entries l
apart_indexed {C} n entries l e f a b h = rw (e, f) (ap (λ (x : Entry C). named x 0) (all_same n Apart (a * 256 + b)))

way_of : {C : Type 0} (t : Bool) (d e : Entry C) → way_in (cond t d e) ≡ cond t (way_in d) (way_in e)
way_of true d e = refl
way_of false d e = refl

way-or_by : {C : Type 0} (e : Entry C) (k : ℕ) → way_in (or_by e k) ≡ way_in e
way-or_by Apart k = refl
way-or_by (Way c) k = refl
way-or_by (By j) k = refl

module _ {C : Type 0} (entries : Entries C) (x y : ℕ) where
  pub with_entry_keeps : (v : Entry C) →
      kept_in (with_entry entries.cells x y v) ≡ cond (ltb x 256 && ltb y 256) (put_price (kept_in entries.cells) x y (way_in v)) (kept_in entries.cells)
  with_entry_keeps v = elim (both_tell x y) [
    | inl h ↦ rw h.0 (fun_ext (λ a. fun_ext (λ b. elim (both_tell a b) [
      | inl g ↦ rw g.0 (ap way_in (rw h.0 at (with_entry_at entries.cells v x y a b entries.long g.1.0 g.1.1)) ∙ way_of (eqb a x && eqb b y) v (entry_at entries.cells a b))
      | inr g ↦ elim (pair_tells a b x y) [ inl p ↦ absurd (g.1 (omega arith, omega arith)) | inr p ↦ rw (g.0, p.0) ]
    ])))
    | inr h ↦ rw h.0
  ]

  pub entered_keeps : (k : ℕ) → kept_in (entered entries.cells x y k) ≡ kept_in entries.cells
  entered_keeps k = with_entry_keeps (or_by (entry_at entries.cells x y) k) ∙ elim (both_tell x y) [
    | inl h ↦
        let same : way_in (or_by (entry_at entries.cells x y) k) ≡ kept_in entries.cells x y = rw h.0 (way-or_by (entry_at entries.cells x y) k) in
        rw (h.0, same) (put_same (kept_in entries.cells) x y)
    | inr h ↦ rw h.0
  ]

  pub with_entry_indexed : (l : List (Shortcut C)) (v : Entry C) → (named v (number_between l x y) ≡ number_between l x y) → Indexed entries.cells l →
      Indexed (with_entry entries.cells x y v) l
  with_entry_indexed l v names inv a b h = rw (with_entry_at entries.cells v x y a b entries.long h.0 h.1) (elim (pair_tells a b x y) [
    | inl p ↦ rw (p.0, p.1.0, p.1.1) names
    | inr p ↦ rw p.0 (inv a b h)
  ])
