-- Shown: what is left of a raising, of the visits of a round and of the rounds of a levelling, one step on.
use Rattle.std.proofs.Common.{◌≡◌, ℕ, suc, ◌+◌, ◌-◌, ◌<◌, ◌≤◌, Bool, true, false, cond, ◌&&◌, eqb, ltb, leb, ◌∷◌, ◌++◌, map, length, drop, sym, refl, ap, ◌∙◌, inl, inr, ⊎_elim, arith}
use mathlib.Core.Path.{fun_ext}
use Rattle.std.proofs.lemmas.List.{drop_more, drop_all}
use Rattle.std.proofs.lemmas.Bool.{cases_lt, lt-ltb, le-ltb, eq-eqb, ne_eqb, cond-true, cond-false, cond_both}
use Rattle.std.proofs.lemmas.Bool.Decides.{eqb_tells}
use Rattle.hierarchy.specs.Kinds.{Kind}
use Rattle.hierarchy.specs.Lands.{Land}
use Rattle.hierarchy.specs.Shortest.{below}
use Rattle.hierarchy.specs.Books.{Book}
use Rattle.hierarchy.specs.Levels.{every, needed, put, raise, shortcut_over, start, visit, visit_each, round, rounds}
use Rattle.frontier.proofs.Renewals.{length-below, get_or-below}
use Rattle.levelling.specs.Meaning.{with_level}
use Rattle.levelling.specs.Raised.{with_levels}
use Rattle.levelling.proofs.Rewriting.{ltb_next}

-- the places below p are raised
module _ {K : Kind} (i : ℕ) (old : Book K) where
  abbrev part : ℕ → ℕ → ℕ
  part p x = cond (ltb x p) (raise i old.level x) (old.level x)

  abbrev pub RaisedTo : ℕ → Book K → Type 0
  RaisedTo p now = now ≡ with_levels (part p) old

  same_levels : (f g : ℕ → ℕ) → ((x : ℕ) → f x ≡ g x) → with_levels f old ≡ with_levels g old
  same_levels f g e = λ j. record { level = fun_ext e j; kept = old.kept; shortcuts = old.shortcuts }

  module _ (p : ℕ) (now : Book K) (so_far : RaisedTo p now) where
    at_place : now.level p ≡ old.level p
    at_place = ap (λ b. b.level p) so_far ∙ cond-false (ltb p p) _ _ (le-ltb p p (omega arith))

    one_on : (f : ℕ → ℕ) → ((x : ℕ) → f x ≡ cond (eqb x p) (raise i old.level p) (part p x)) → (x : ℕ) → f x ≡ part (p + 1) x
    one_on f e x = e x ∙ elim (eqb_tells x p) [
      | inl q ↦ rw (q.0, q.1, lt-ltb p (p + 1) (omega arith)) refl
      | inr q ↦ rw (q.0, ltb_next x p q.1) refl
    ]

    pub raises : p < 256 → now.level p ≡ i → (new : Book K) → new ≡ with_level p (i + 1) now → RaisedTo (p + 1) new
    raises h e new made =
        made ∙ (λ j. record { level = (cond-true (ltb p 256) (put now.level p (i + 1)) now.level (lt-ltb p 256 h)) j; kept = (so_far j).kept; shortcuts = (so_far j).shortcuts })
        ∙ same_levels (put now.level p (i + 1)) (part (p + 1)) (one_on _ (λ x. λ j. cond (eqb x p) (up j) ((so_far j).level x)))
      where
        up : i + 1 ≡ raise i old.level p
        up = sym (cond-true (eqb (old.level p) i) _ _ (eq-eqb _ _ (sym at_place ∙ e)))

    pub leaves_be : (now.level p ≡ i → ⊥) → RaisedTo (p + 1) now
    leaves_be n = so_far ∙ same_levels (part p) (part (p + 1)) (one_on (part p) here)
      where
        stays : raise i old.level p ≡ old.level p
        stays = cond-false (eqb (old.level p) i) _ _ (ne_eqb _ _ (λ e. n (at_place ∙ e)))

        here : (x : ℕ) → part p x ≡ cond (eqb x p) (raise i old.level p) (part p x)
        here x = elim (eqb_tells x p) [
          | inl q ↦ rw (q.0, q.1) (cond-false (ltb p p) _ _ (le-ltb p p (omega arith)) ∙ sym stays)
          | inr q ↦ rw q.0 refl
        ]

  -- no place beyond the first 256 has a level
  pub all_raised : 1 ≤ i → ((x : ℕ) → 256 ≤ x → old.level x ≡ 0) → (p : ℕ) → 256 ≤ p → (now : Book K) → RaisedTo p now → now ≡ with_levels (raise i old.level) old
  all_raised h none p w now so_far = so_far ∙ same_levels (part p) (raise i old.level) (λ x. ⊎_elim
      (λ l. cond-true (ltb x p) _ _ (lt-ltb x p l))
      (λ l. cond-false (ltb x p) _ _ (le-ltb x p l) ∙ sym (cond-false (eqb (old.level x) i) _ _ (ne_eqb _ _ (λ e. omega (arith, none x (omega arith)))))) (cases_lt x p))

module _ {K : Kind} (land : Land K) (rule : ℕ → ℕ → Bool) (i : ℕ) where
  abbrev pub VisitsLeft : ℕ → Book K → Book K → Type 0
  VisitsLeft v now whole = visit_each land rule i (drop v (below land.size)) now ≡ whole

  next-visit : (v : ℕ) (now whole : Book K) → v < land.size → VisitsLeft v now whole → VisitsLeft (v + 1) (cond (eqb (now.level v) (i + 1)) (visit land rule i now v) now) whole
  next-visit v now whole h left =
      ap (λ l. visit_each land rule i l now) (sym (drop_more (below land.size) v 0 (omega (arith, length-below land.size)) ∙ ap (λ x. x ∷ drop (v + 1) (below land.size)) (get_or-below land.size v 0 h))) ∙ left

  pub visited : (v : ℕ) (now whole new : Book K) → v < land.size → now.level v ≡ i + 1 → new ≡ visit land rule i now v → VisitsLeft v now whole → VisitsLeft (v + 1) new whole
  visited v now whole new h e made left =
      ap (visit_each land rule i (drop (v + 1) (below land.size))) (made ∙ sym (cond-true (eqb (now.level v) (i + 1)) (visit land rule i now v) now (eq-eqb _ _ e))) ∙ next-visit v now whole h left

  pub passed : (v : ℕ) (now whole : Book K) → v < land.size → (now.level v ≡ i + 1 → ⊥) → VisitsLeft v now whole → VisitsLeft (v + 1) now whole
  passed v now whole h n left =
      ap (visit_each land rule i (drop (v + 1) (below land.size))) (sym (cond-false (eqb (now.level v) (i + 1)) (visit land rule i now v) now (ne_eqb _ _ n))) ∙ next-visit v now whole h left

  pub all_visited : (v : ℕ) (now whole : Book K) → land.size ≤ v → VisitsLeft v now whole → now ≡ whole
  all_visited v now whole h left = ap (λ l. visit_each land rule i l now) (sym (drop_all v (below land.size) (omega (arith, length-below land.size)))) ∙ left

  pub visit-bounded : (now : Book K) (v : ℕ) → ((x : ℕ) → now.level x ≤ i + 1) → (x : ℕ) → (visit land rule i now v).level x ≤ i + 1
  visit-bounded now v h x = go (every (λ p. rule p.0 p.1) (needed land i now v) && leb (length now.shortcuts + length (needed land i now v)) 2048)
    where
      at : (t : Bool) → cond t i (now.level x) ≤ i + 1
      at true = omega arith
      at false = h x

      go : (t : Bool) → (cond t (record { level = put now.level v i; kept = now.kept; shortcuts = now.shortcuts ++ map (shortcut_over land now v) (needed land i now v) }) now).level x ≤ i + 1
      go true = at (eqb x v)
      go false = h x

pub raise-bounded : (i : ℕ) (level : ℕ → ℕ) → ((x : ℕ) → level x ≤ i) → (x : ℕ) → raise i level x ≤ i + 1
raise-bounded i level h x = cond_both (eqb (level x) i) (i + 1) (level x) (λ y. y ≤ i + 1) (λ e. omega arith) (λ e. omega (arith, h x))

module _ {K : Kind} (land : Land K) (rule : ℕ → ℕ → Bool) (levels : ℕ) where
  abbrev pub RoundsLeft : ℕ → Book K → Type 0
  RoundsLeft i now = rounds land rule (levels - i) i now ≡ rounds land rule (levels - 1) 1 (start land)

  pub one-round : (i : ℕ) (now new : Book K) → i < levels → new ≡ round land rule i now → RoundsLeft i now → RoundsLeft (i + 1) new
  one-round i now new h made left =
      let e : suc (levels - (i + 1)) ≡ levels - i = omega arith in
      ap (rounds land rule (levels - (i + 1)) (i + 1)) made ∙ ap (λ k. rounds land rule k i now) e ∙ left

  pub no_round : (i : ℕ) (now : Book K) → levels ≤ i → RoundsLeft i now → now ≡ rounds land rule (levels - 1) 1 (start land)
  no_round i now h left = let e : 0 ≡ levels - i = omega arith in ap (λ k. rounds land rule k i now) e ∙ left

  pub start-bounded : (x : ℕ) → (start land).level x ≤ 1
  start-bounded x = go (land.free x)
    where
      go : (t : Bool) → cond t 1 0 ≤ 1
      go true = omega arith
      go false = omega arith
