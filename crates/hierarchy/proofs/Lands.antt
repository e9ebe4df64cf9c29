-- Shown: whatever is shut, the land of a lawful ground is lawful.
use Rattle.std.proofs.Common.{◌≡◌, ℕ, Bool, true, false, cond, ◌&&◌, ltb, None, Option, refl, ⊎_elim}
use mathlib.Core.Bool.{and_comm}
use Rattle.std.proofs.lemmas.Bool.{and_parts, and_from, ltb-true, not_from_false, cases_Bool}
use Rattle.ground.specs.Grounds.{GroundLaws}
use Rattle.ground.specs.Marks.{free_under}
use Rattle.hierarchy.specs.Kinds.{Kind}
use Rattle.hierarchy.specs.Lands.{on, ways, Terrain, land_at}
use Rattle.hierarchy.specs.Levelled.{Lawful}
use Rattle.hierarchy.proofs.Prices.{Has, some_has, has_not_none, cond_has}

cond_none : {A : Type 0} (t : Bool) (p : Option A) → p ≡ None → cond t p None ≡ None
cond_none true p e = e
cond_none false p e = refl

module _ {K : Kind} (terrain : Terrain K) (shut : ℕ → Bool) (laws : GroundLaws terrain.size shut terrain.chart) (s : ℕ → Bool) where
  way-free : (a b : ℕ) → Has (ways (land_at terrain s) a b) → free_under terrain.size s a ≡ true
  way-free a b h =
      let t = cond_has (on (land_at terrain s) a && on (land_at terrain s) b) (terrain.chart s a b) h in
      and_from (ltb a terrain.size) _ (and_parts (on (land_at terrain s) a) _ t.0).0
      (not_from_false (s a) (⊎_elim (λ e. absurd (has_not_none (terrain.chart s a b) t.1 (laws.closed s a b e))) (λ e. e) (cases_Bool (s a))))

  pub lawful_land : Lawful (land_at terrain s)
  lawful_land = record {
    few = laws.few;
    free_on = λ a h. ltb-true _ _ (and_parts (ltb a terrain.size) _ h).0;
    alike = λ a b i. cond (and_comm (on (land_at terrain s) a) (on (land_at terrain s) b) i) (laws.alike s a b i) None;
    apart = λ a. cond_none (on (land_at terrain s) a && on (land_at terrain s) a) (terrain.chart s a a) (laws.apart s a);
    ends_free = λ a b c e. way-free a b (some_has _ c e);
  }
