-- Shown: every sheet keeps the laws of grounds, and its ways have way costs.
--   sheet-laws  the laws of a sheet
use Rattle.std.specs.Prelude.{◌≡◌, ℕ, ◌+◌, ◌*◌, Bool, true, false, cond, ◌&&◌, Some, None, Option, ◌==◌, nat_eq, nat_lt, refl}
use Rattle.std.proofs.Common.{ap, subst, ◌∙◌, arith}
use Rattle.std.proofs.lemmas.List.{get_or_past}
use Rattle.std.proofs.lemmas.Bool.{and_left, and_right, le-ltb, cond-false, not_from_true}
use Rattle.cost.specs.declared.octile.Octile.{Octile}
use Rattle.cost.specs.Octiles.{octile, way_o}
use Rattle.sheet.specs.declared.Sheet.{Sheet}
use Rattle.ground.specs.Grounds.{GroundLaws, OnlyWayCosts}
use Rattle.ground.specs.Marks.{size_in, shut_in, free_under}
use Rattle.sheet.specs.Sheets.{between, cell, row_of, column_of, rows_between, columns_between, share_side, touch_at_corner, corner_free, way_between, sheet_chart}

and_swap : (x y : Bool) → (x && y) ≡ (y && x)
and_swap true true = refl
and_swap true false = refl
and_swap false true = refl
and_swap false false = refl

between_swap : (x y : ℕ) → between x y ≡ between y x
between_swap x y = omega arith

between_self : (x : ℕ) → between x x ≡ 0
between_self x = omega arith

unless_none : (b : Bool) (o : Option Octile) → o ≡ None → cond b o None ≡ None
unless_none true o e = e
unless_none false o e = refl

-- either step has a way cost
step_costs : (p q r : Bool) (c : Octile) → cond p (cond q (Some (octile 1 0)) (cond r (Some (octile 0 1)) None)) None ≡ Some c → way_o c ≡ true
step_costs true true r c e = let f : octile 1 0 ≡ c = cc in subst (λ x. way_o x ≡ true) f refl
step_costs true false true c e = let f : octile 0 1 ≡ c = cc in subst (λ x. way_o x ≡ true) f refl
step_costs true false false c e = let z : ◌≡◌ {A = ℕ} 0 1 = cc in absurd (omega arith)
step_costs false q r c e = let z : ◌≡◌ {A = ℕ} 0 1 = cc in absurd (omega arith)

module _ (w h : ℕ) where
  pub chart_fair : OnlyWayCosts way_o (sheet_chart w h)
  chart_fair s a b c e =
      let free = free_under (w * h) s in
      step_costs (free a && free b) (share_side w a b) (touch_at_corner w a b && corner_free w free a b) c e

  module _ (s : ℕ → Bool) where
    abbrev free : ℕ → Bool
    free = free_under (w * h) s

    swap : (a b : ℕ) → way_between w free a b ≡ way_between w free b a
    swap a b =
        let r = between_swap (row_of w a) (row_of w b) in
        let k = between_swap (column_of w a) (column_of w b) in
        let e : share_side w a b ≡ share_side w b a = ap (λ n. nat_eq (n + columns_between w a b) 1) r ∙ ap (λ n. nat_eq (rows_between w b a + n) 1) k in
        let f : touch_at_corner w a b ≡ touch_at_corner w b a = ap (λ n. (n == 1) && columns_between w a b == 1) r ∙ ap (λ n. (rows_between w b a == 1) && n == 1) k in
        let g : corner_free w free a b ≡ corner_free w free b a = and_swap (free (cell w (row_of w a) (column_of w b))) (free (cell w (row_of w b) (column_of w a))) in
        cc

    chart-alike : (a b : ℕ) → sheet_chart w h s a b ≡ sheet_chart w h s b a
    chart-alike a b = let e = and_swap (free a) (free b) in let f = swap a b in cc

    self : (a : ℕ) → way_between w free a a ≡ None
    self a = rw (between_self (row_of w a), between_self (column_of w a))

    chart-apart : (a : ℕ) → sheet_chart w h s a a ≡ None
    chart-apart a = unless_none (free a && free a) _ (self a)

    only_free : (a b : ℕ) → free a ≡ false → sheet_chart w h s a b ≡ None
    only_free a b e = cond-false _ _ _ (and_left (free a) (free b) e)

pub sheet-laws : (g : Sheet) → GroundLaws (size_in g.places) (shut_in g.places) (sheet_chart g.width g.height)
sheet-laws g = record {
  few = g.places.few;
  shut-within = λ a l. get_or_past g.places.shut.items a false l;
  alike = chart-alike g.width g.height;
  apart = chart-apart g.width g.height;
  closed = λ s a b e. only_free g.width g.height s a b (and_right (nat_lt a (g.width * g.height)) _ (not_from_true (s a) e));
  within = λ s a b l. only_free g.width g.height s a b (and_left (nat_lt a (g.width * g.height)) _ (le-ltb a _ (omega (arith, g.filled))));
}
