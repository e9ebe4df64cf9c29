-- Shown: what a sheet's steps give between free cells, and nothing where a cell is not free, is its chart.
use Rattle.std.proofs.Common.{◌≡◌, ℕ, ◌*◌, ◌<◌, Bool, true, false, cond, ◌&&◌, ltb, None, refl, ap, ◌∙◌, arith}
use Rattle.std.proofs.lemmas.Bool.{and_parts, ltb-true}
use Rattle.sheet.specs.declared.Sheet.{Sheet}
use Rattle.ground.specs.Marks.{size_in, shut_in, free_under, free_in}
use Rattle.sheet.specs.Sheets.{way_between, sheet_chart}
use Rattle.sheet.specs.Steps.{step_to, step_between, step_way, free_at, neighbour_of}
use Rattle.sheet.proofs.Table.{by-table}

module _ (g : Sheet) (a b : ℕ) where
  abbrev w : ℕ
  w = g.width

  abbrev h : ℕ
  h = g.height

  abbrev s : ℕ → Bool
  s = shut_in g.places

  free_is : free_in g.places ≡ free_under (w * h) s
  free_is = ap (λ n. free_under n s) g.filled

  on-sheet : (k : ℕ) → free_in g.places k ≡ true → k < w * h
  on-sheet k e = let l = ltb-true k (size_in g.places) (and_parts (ltb k (size_in g.places)) _ e).0 in omega (arith, g.filled)

  pub by-steps : step_way (λ by. free_at (free_in g.places) (neighbour_of w h a by)) (step_between (free_in g.places) w h a b) ≡ sheet_chart w h s a b
  by-steps =
      either (free_in g.places a && free_in g.places b)
      (λ e. let p = and_parts (free_in g.places a) (free_in g.places b) e in by-table w h (free_in g.places) a b (on-sheet a p.0) (on-sheet b p.1))
      ∙ ap (λ f. cond (f a && f b) (way_between w f a b) None) free_is
    where
      either : (t : Bool) → (t ≡ true → step_way (λ by. free_at (free_in g.places) (neighbour_of w h a by)) (step_to w h a b) ≡ way_between w (free_in g.places) a b) →
          step_way (λ by. free_at (free_in g.places) (neighbour_of w h a by)) (cond t (step_to w h a b) None) ≡ cond t (way_between w (free_in g.places) a b) None
      either true k = k refl
      either false k = refl
