-- Shown: a trail list keeps the laws of grounds, whatever its records are.
use Rattle.std.specs.Prelude.{◌≡◌, ℕ, Bool, true, false, not, ◌&&◌, ◌||◌, List, [], ◌∷◌, None, ◌==◌, nat_lt, refl}
use Rattle.std.proofs.Common.{sym, ◌∙◌, inl, inr}
use Rattle.std.proofs.lemmas.List.{get_or_past}
use Rattle.std.proofs.lemmas.Bool.{and_left, and_right, cond-false, eq-eqb, le-ltb, ne_eqb, not_from_true}
use Rattle.std.proofs.lemmas.Bool.Decides.{eqb_tells}
use Rattle.ground.specs.declared.places.Places.{Places}
use Rattle.trails.specs.declared.Record.{Record}
use Rattle.ground.specs.Grounds.{GroundLaws}
use Rattle.ground.specs.Marks.{size_in, shut_in, free_under}
use Rattle.trails.specs.Trails.{names, found, passable, trail_chart}

and_comm : (x y : Bool) → (x && y) ≡ (y && x)
and_comm true true = refl
and_comm true false = refl
and_comm false true = refl
and_comm false false = refl

or_comm : (x y : Bool) → (x || y) ≡ (y || x)
or_comm true true = refl
or_comm true false = refl
or_comm false true = refl
or_comm false false = refl

eqb_comm : (x y : ℕ) → (x == y) ≡ (y == x)
eqb_comm x y =
    elim (eqb_tells x y) [ inl p ↦ p.0 ∙ sym (eq-eqb y x (sym p.1)) | inr p ↦ p.0 ∙ sym (ne_eqb y x (λ h. p.1 (sym h))) ]

pub names-alike : {C : Type 0} (r : Record C) (a b : ℕ) → names r a b ≡ names r b a
names-alike r a b = or_comm (r.from == a && r.to == b) (r.from == b && r.to == a)

pub found_alike : {C : Type 0} (rs : List (Record C)) (a b : ℕ) → found rs a b ≡ found rs b a
found_alike [] a b = refl
found_alike (r ∷ rs) a b = rw (found_alike rs a b, names-alike r a b)

pub passable-alike : (n : ℕ) (s : ℕ → Bool) (a b : ℕ) → passable n s a b ≡ passable n s b a
passable-alike n s a b = rw (eqb_comm a b, and_comm (free_under n s a) (free_under n s b))

pub chart-alike : {C : Type 0} (way : C → Bool) (n : ℕ) (rs : List (Record C)) (s : ℕ → Bool) (a b : ℕ) →
    trail_chart way n rs s a b ≡ trail_chart way n rs s b a
chart-alike way n rs s a b = rw (passable-alike n s a b, found_alike rs a b)

impassable : {C : Type 0} (way : C → Bool) (n : ℕ) (rs : List (Record C)) (s : ℕ → Bool) (a b : ℕ) → free_under n s a ≡ false →
    trail_chart way n rs s a b ≡ None
impassable way n rs s a b h =
    cond-false _ _ _ (and_right (not (a == b)) _ (and_left (free_under n s a) (free_under n s b) h))

pub trail_laws : {C : Type 0} (way : C → Bool) (p : Places) (rs : List (Record C)) →
    GroundLaws (size_in p) (shut_in p) (trail_chart way (size_in p) rs)
trail_laws way p rs = let n = size_in p in record {
  few = p.few;
  shut-within = λ a h. get_or_past p.shut.items a false h;
  alike = chart-alike way n rs;
  apart = λ s a. cond-false _ _ _ (and_left (not (a == a)) _ (not_from_true _ (eq-eqb a a refl)));
  closed = λ s a b h. impassable way n rs s a b (and_right (nat_lt a n) _ (not_from_true (s a) h));
  within = λ s a b h. impassable way n rs s a b (and_left (nat_lt a n) _ (le-ltb a n h));
}
