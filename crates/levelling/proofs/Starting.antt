-- Shown: levels entered, ways entered and the beaten ones set aside make the book before the first round.
use Rattle.std.proofs.Common.{◌≡◌, ℕ, Bool, true, false, cond, not, ◌&&◌, eqb, ltb, [], Some, None, Option, sym, refl, ap, ◌∙◌, subst, inl, inr}
use mathlib.Core.Path.{fun_ext}
use Rattle.std.proofs.lemmas.Bool.Decides.{eqb_tells}
use Rattle.std.specs.Option.{option_map}
use Rattle.ground.specs.Earliest.{or_else}
use Rattle.hierarchy.specs.Kinds.{Kind, Price}
use Rattle.hierarchy.specs.Lands.{Terrain, land_at, ways}
use Rattle.hierarchy.specs.Walks.{SetAside}
use Rattle.hierarchy.specs.Deciders.{set_aside?}
use Rattle.hierarchy.specs.Books.{Book, link_among, shortcut_between}
use Rattle.hierarchy.specs.Levels.{start}
use Rattle.hierarchy.specs.Levelled.{Lawful}
use Rattle.hierarchy.proofs.Distances.{Region}
use Rattle.hierarchy.proofs.Unbeaten.{Unbeaten, start_unbeaten}
use Rattle.levelling.specs.Begun.{LevelsEntered, RowsWritten, enters}
use Rattle.levelling.specs.Beaten.{BeatenAside}

-- there is only one way to keep those that no walk beats
unbeaten_same : (R : Region) (f g : ℕ → ℕ → Price R.K) → Unbeaten R f → Unbeaten R g → f ≡ g
unbeaten_same R f g h k = fun_ext (λ a. fun_ext (λ b. elim (set_aside? R.K R.land a b) [
  | yes s ↦ (h a b).0 s ∙ sym ((k a b).0 s)
  | no s ↦ (h a b).1 s ∙ sym ((k a b).1 s)
]))

or_none : {A : Type 0} (o : Option A) → or_else o None ≡ o
or_none None = refl
or_none (Some x) = refl

levels_same : (s t : Bool) → ◌≡◌ {A = ℕ} (cond s (cond t 0 1) 0) (cond (s && not t) 1 0)
levels_same true true = refl
levels_same true false = refl
levels_same false t = refl

module _ {K : Kind} (terrain : Terrain K) (shut : ℕ → Bool) (lawful : Lawful (land_at terrain shut)) where
  abbrev n : ℕ
  n = terrain.size

  abbrev region : Region
  region = record { K = K; land = land_at terrain shut; lawful = lawful }

  -- once levels and ways are entered in a blank book
  module _ (blank levelled entered : Book K) (no_level : (x : ℕ) → blank.level x ≡ 0) (no_way : (x y : ℕ) → blank.kept x y ≡ None) (no_shortcut : blank.shortcuts ≡ [])
      (l : LevelsEntered n shut blank levelled) (w : RowsWritten (enters (terrain.chart shut)) n n levelled entered) where
    all_ways : (x y : ℕ) → entered.kept x y ≡ ways (land_at terrain shut) x y
    all_ways x y =
        let none : levelled.kept x y ≡ None = ap (λ (f : ℕ → ℕ → Price K). f x y) l.ways ∙ no_way x y in
        w.ways x y ∙ (λ i. cond (ltb x n && ltb y n) ((ap (or_else (terrain.chart shut x y)) none ∙ or_none _) i) (none i))

    pub none_yet : entered.shortcuts ≡ []
    none_yet = w.shortcuts ∙ l.shortcuts ∙ no_shortcut

    ways-link : link_among n entered ≡ ways (land_at terrain shut)
    ways-link = fun_ext (λ a. fun_ext (λ b. here a b))
      where
        met : (t u : Bool) (p : Price K) → cond (t && (u && true)) p None ≡ cond (t && u) p None
        met true true p = refl
        met true false p = refl
        met false u p = refl

        apart : (t u : Bool) (p : Price K) → cond (t && (u && false)) p None ≡ None
        apart true true p = refl
        apart true false p = refl
        apart false u p = refl

        inner : (a b : ℕ) → or_else (entered.kept a b) (option_map (λ s. s.cost) (shortcut_between entered.shortcuts a b)) ≡ ways (land_at terrain shut) a b
        inner a b = (λ i. or_else (all_ways a b i) (option_map (λ s. s.cost) (shortcut_between (none_yet i) a b))) ∙ or_none _

        twice : (t : Bool) (p : Price K) → cond t (cond t p None) None ≡ cond t p None
        twice true p = refl
        twice false p = refl

        here : (a b : ℕ) → link_among n entered a b ≡ ways (land_at terrain shut) a b
        here a b = ap (λ p. cond (ltb a n && (ltb b n && not (eqb a b))) p None) (inner a b) ∙ elim (eqb_tells a b) [
          | inl p ↦ rw p.0 (apart (ltb a n) (ltb b n) _ ∙ sym (ap (ways (land_at terrain shut) a) (sym p.1) ∙ lawful.apart a))
          | inr p ↦ rw p.0 (met (ltb a n) (ltb b n) _ ∙ twice (ltb a n && ltb b n) (terrain.chart shut a b))
        ]

    module _ (after : Book K) (aside : BeatenAside n entered after) where
      unbeaten : Unbeaten region after.kept
      unbeaten = subst (λ (step : ℕ → ℕ → Price K). (a b : ℕ) → (SetAside K step a b → after.kept a b ≡ None) × (¬ (SetAside K step a b) → after.kept a b ≡ ways (land_at terrain shut) a b))
          ways-link (λ a b. (aside.beaten a b, λ s. aside.unbeaten a b s ∙ all_ways a b))

      levels_are : after.level ≡ (start (land_at terrain shut)).level
      levels_are = fun_ext (λ x.
          ap (λ (f : ℕ → ℕ). f x) (aside.levels ∙ w.levels) ∙ l.levels x ∙ ap (cond (ltb x n) (cond (shut x) 0 1)) (no_level x) ∙ levels_same (ltb x n) (shut x))

      pub started : after ≡ start (land_at terrain shut)
      started = λ i. record {
        level = levels_are i;
        kept = unbeaten_same region after.kept (start (land_at terrain shut)).kept unbeaten (start_unbeaten region) i;
        shortcuts = (aside.shortcuts ∙ none_yet) i;
      }
