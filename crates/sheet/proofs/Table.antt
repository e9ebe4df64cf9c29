-- Shown: the table of steps gives exactly the ways of a sheet.
use Rattle.std.proofs.Common.{◌≡◌, ℕ, zero, suc, ◌+◌, ◌-◌, ◌*◌, ◌/◌, ◌%◌, ◌<◌, ◌≤◌, Bool, true, false, cond, ◌&&◌, eqb, ltb, ℤ, pos, negsuc, Some, None, Option, sym, refl, ap, ◌∙◌, ⊎_elim, zero-mul, arith}
use mathlib.Core.Path.{fun_ext}
use Rattle.std.proofs.lemmas.Nat.{div-mul-add, mod-mul-add, div-add-mod', div_below, mod_below}
use Rattle.std.proofs.lemmas.Bool.{and_left, and_right, lt-ltb, le-ltb, eq-eqb, ne_eqb, and_from, cases_lt, cases_order, cases_eq, cond-true, cond-false}
use Rattle.std.specs.List.{find}
use Rattle.cost.specs.declared.octile.Octile.{Octile}
use Rattle.cost.specs.Octiles.{octile}
use Rattle.sheet.specs.declared.steps.Step.{Step}
use Rattle.sheet.specs.declared.steps.Offset.{Offset}
use Rattle.sheet.specs.Steps.{table, below_end, moved, placed, neighbour_of, is_place, free_at, step_to, step_way}
use Rattle.sheet.specs.Sheets.{between, cell, way_between}
use Rattle.sheet.proofs.Moves.{moved-below}

and_false : (x : Bool) → (x && false) ≡ false
and_false x = and_right x false refl

-- HOW TWO ROWS, OR TWO COLUMNS, LIE: M says where one, at x, is moved by -1, 0 and 1, and y is the other

data Lies (M : ℤ → Option ℕ) (x y : ℕ) : Type 0 where
  before : between x y ≡ 1 → M (negsuc 0) ≡ Some y → is_place (M (negsuc 0)) y ≡ true → is_place (M (pos 0)) y ≡ false → is_place (M (pos 1)) y ≡ false → Lies M x y
  same : between x y ≡ 0 → is_place (M (negsuc 0)) y ≡ false → is_place (M (pos 0)) y ≡ true → is_place (M (pos 1)) y ≡ false → Lies M x y
  after : between x y ≡ 1 → M (pos 1) ≡ Some y → is_place (M (negsuc 0)) y ≡ false → is_place (M (pos 0)) y ≡ false → is_place (M (pos 1)) y ≡ true → Lies M x y
  far : 2 ≤ between x y → is_place (M (negsuc 0)) y ≡ false → is_place (M (pos 0)) y ≡ false → is_place (M (pos 1)) y ≡ false → Lies M x y

module _ (M C : ℤ → Option ℕ) (w : ℕ) (free : ℕ → Bool) (ra ca rb cb : ℕ) (here : M (pos 0) ≡ Some ra) (there : C (pos 0) ≡ Some ca) where
  abbrev leads : Step → Bool
  leads s = is_place (M s.to.down) rb && is_place (C s.to.right) cb

  abbrev passes : Offset → Bool
  passes by = free_at free (placed w (M by.down) (C by.right))

  abbrev told : Option Octile
  told =
      cond (eqb (between ra rb + between ca cb) 1) (Some (octile 1 0)) (cond ((eqb (between ra rb) 1 && eqb (between ca cb) 1) && (free (cell w ra cb) && free (cell w rb ca))) (Some (octile 0 1)) None)

  -- rows, or columns, that are far apart: no step of the table, and no way
  far_rows : 2 ≤ between ra rb → is_place (M (negsuc 0)) rb ≡ false → is_place (M (pos 0)) rb ≡ false → is_place (M (pos 1)) rb ≡ false →
      step_way passes (find leads table) ≡ told
  far_rows l u v z =
      let e = ne_eqb (between ra rb + between ca cb) 1 (λ q. omega arith) in
      let f = ne_eqb (between ra rb) 1 (λ q. omega arith) in
      simp (u, v, z, e, f)

  far_columns : 2 ≤ between ca cb → is_place (C (negsuc 0)) cb ≡ false → is_place (C (pos 0)) cb ≡ false → is_place (C (pos 1)) cb ≡ false →
      step_way passes (find leads table) ≡ told
  far_columns l p q r =
      let e = ne_eqb (between ra rb + between ca cb) 1 (λ q. omega arith) in
      let f = ne_eqb (between ca cb) 1 (λ q. omega arith) in
      simp (p, q, r, e, f, and_false)

  agree : Lies M ra rb → Lies C ca cb → step_way passes (find leads table) ≡ told
  agree (far l u v z) k = far_rows l u v z
  agree (before e m u v z) (far l p q r) = far_columns l p q r
  agree (same e u v z) (far l p q r) = far_columns l p q r
  agree (after e m u v z) (far l p q r) = far_columns l p q r
  agree (before e m u v z) (before f k p q r) = simp (u, v, z, p, q, r, e, f) (simp (m, k, here, there))
  agree (before e m u v z) (same f p q r) = simp (u, v, z, p, q, r, e, f)
  agree (before e m u v z) (after f k p q r) = simp (u, v, z, p, q, r, e, f) (simp (m, k, here, there))
  agree (same e u v z) (before f k p q r) = simp (u, v, z, p, q, r, e, f)
  agree (same e u v z) (same f p q r) = simp (u, v, z, p, q, r, e, f)
  agree (same e u v z) (after f k p q r) = simp (u, v, z, p, q, r, e, f)
  agree (after e m u v z) (before f k p q r) = simp (u, v, z, p, q, r, e, f) (simp (m, k, here, there))
  agree (after e m u v z) (same f p q r) = simp (u, v, z, p, q, r, e, f)
  agree (after e m u v z) (after f k p q r) = simp (u, v, z, p, q, r, e, f) (simp (m, k, here, there))

-- A ROW OR A COLUMN x OF THOSE BELOW end, MOVED BY ONE OR LEFT

module _ (end x : ℕ) (within : x < end) where
  stays : moved x (pos 0) end ≡ Some x
  stays = cond-true _ _ _ (lt-ltb (x + 0) end (omega arith)) ∙ ap Some (omega arith)

  goes_back : 0 < x → moved x (negsuc 0) end ≡ Some (x - 1)
  goes_back l = ap (below_end end) (cond-false (ltb x 1) _ _ (le-ltb x 1 l)) ∙ cond-true _ _ _ (lt-ltb (x - 1) end (omega arith))

  cannot_go_back : x < 1 → moved x (negsuc 0) end ≡ None
  cannot_go_back l = ap (below_end end) (cond-true (ltb x 1) _ _ (lt-ltb x 1 l))

  goes_on : x + 1 < end → moved x (pos 1) end ≡ Some (x + 1)
  goes_on l = cond-true _ _ _ (lt-ltb (x + 1) end l)

  cannot_go_on : end ≤ x + 1 → moved x (pos 1) end ≡ None
  cannot_go_on l = cond-false _ _ _ (le-ltb (x + 1) end l)

  module _ (y : ℕ) (too : y < end) where
    elsewhere : (o : Option ℕ) (n : ℕ) → o ≡ Some n → (n ≡ y → ⊥) → is_place o y ≡ false
    elsewhere o n e h = ap (λ p. is_place p y) e ∙ ne_eqb n y h

    found : (o : Option ℕ) → o ≡ Some y → is_place o y ≡ true
    found o e = ap (λ p. is_place p y) e ∙ eq-eqb y y refl

    not_back : (x ≡ y + 1 → ⊥) → is_place (moved x (negsuc 0) end) y ≡ false
    not_back h =
        ⊎_elim (λ l. elsewhere _ (x - 1) (goes_back l) (λ q. h (omega arith))) (λ l. ap (λ p. is_place p y) (cannot_go_back (omega arith))) (cases_lt 0 x)

    not_here : (x ≡ y → ⊥) → is_place (moved x (pos 0) end) y ≡ false
    not_here h = elsewhere _ x stays h

    not_on : (y ≡ x + 1 → ⊥) → is_place (moved x (pos 1) end) y ≡ false
    not_on h =
        ⊎_elim (λ l. elsewhere _ (x + 1) (goes_on l) (λ q. h (sym q))) (λ l. ap (λ p. is_place p y) (cannot_go_on l)) (cases_lt (x + 1) end)

    back : x ≡ y + 1 → Lies (λ d. moved x d end) x y
    back q =
        let e : moved x (negsuc 0) end ≡ Some y = goes_back (omega arith) ∙ ap Some (omega arith) in
        before (omega arith) e (found _ e) (not_here (λ k. omega arith)) (not_on (λ k. omega arith))

    level : x ≡ y → Lies (λ d. moved x d end) x y
    level q = same (omega arith) (not_back (λ k. omega arith)) (found _ (stays ∙ ap Some q)) (not_on (λ k. omega arith))

    on : y ≡ x + 1 → Lies (λ d. moved x d end) x y
    on q =
        let e : moved x (pos 1) end ≡ Some y = goes_on (omega arith) ∙ ap Some (sym q) in
        after (omega arith) e (not_back (λ k. omega arith)) (not_here (λ k. omega arith)) (found _ e)

    away : 2 ≤ between x y → Lies (λ d. moved x d end) x y
    away l = far l (not_back (λ k. omega arith)) (not_here (λ k. omega arith)) (not_on (λ k. omega arith))

    lies : Lies (λ d. moved x d end) x y
    lies =
        ⊎_elim level
        (⊎_elim (λ l. ⊎_elim on (λ h. away (two h l)) (cases_eq y (x + 1))) (λ l. ⊎_elim back (λ h. away (two' h l)) (cases_eq x (y + 1))))
        (cases_order x y)
      where
        two : (y ≡ x + 1 → ⊥) → x < y → 2 ≤ between x y
        two h l = omega arith

        two' : (x ≡ y + 1 → ⊥) → y < x → 2 ≤ between x y
        two' h l = omega arith

-- a place has one row and one column
same_cell : (w r k rb cb : ℕ) → k < w → cb < w → eqb (cell w r k) (cell w rb cb) ≡ (eqb r rb && eqb k cb)
same_cell w r k rb cb l m =
    ⊎_elim
    (λ (p : r ≡ rb). ⊎_elim
    (λ (q : k ≡ cb). eq-eqb (cell w r k) (cell w rb cb) (cc) ∙ sym (and_from (eqb r rb) (eqb k cb) (eq-eqb r rb p) (eq-eqb k cb q)))
    (λ h. ne_eqb (cell w r k) (cell w rb cb) (λ e. h (sym (mod-mul-add r w k l) ∙ ap (λ n. n % w) e ∙ mod-mul-add rb w cb m)) ∙ sym (and_right (eqb r rb) _ (ne_eqb k cb h)))
    (cases_eq k cb))
    (λ h. ne_eqb (cell w r k) (cell w rb cb) (λ e. h (sym (div-mul-add r w k l) ∙ ap (λ n. n / w) e ∙ div-mul-add rb w cb m)) ∙ sym (and_left (eqb r rb) _ (ne_eqb r rb h)))
    (cases_eq r rb)

both : (w : ℕ) (row column : Option ℕ) (rb cb : ℕ) → cb < w → ((n : ℕ) → Some n ≡ column → n < w) →
    is_place (placed w row column) (cell w rb cb) ≡ (is_place row rb && is_place column cb)
both w None column rb cb l h = refl
both w (Some r) None rb cb l h = sym (and_false (eqb r rb))
both w (Some r) (Some k) rb cb l h = same_cell w r k rb cb (h k refl) l

wide : (w h n : ℕ) → n < w * h → 0 < w
wide zero h n l = absurd (omega (arith, zero-mul h))
wide (suc w) h n l = omega arith

pub by-table : (w h : ℕ) (free : ℕ → Bool) (a b : ℕ) → a < w * h → b < w * h →
    step_way (λ by. free_at free (neighbour_of w h a by)) (step_to w h a b) ≡ way_between w free a b
unfolding step_to
by-table w h free a b la lb =
    let p = wide w h a la in
    let ra = div_below a w h p (omega arith) in
    let rb = div_below b w h p (omega arith) in
    let ca = mod_below a w p in
    let cb = mod_below b w p in
    let M : ℤ → Option ℕ = λ d. moved (a / w) d h in
    let C : ℤ → Option ℕ = λ d. moved (a % w) d w in
    let one : (s : Step) → is_place (neighbour_of w h a s.to) b ≡ (is_place (M s.to.down) (b / w) && is_place (C s.to.right) (b % w)) =
    λ s. ap (is_place (neighbour_of w h a s.to)) (sym (div-add-mod' b w)) ∙ both w (M s.to.down) (C s.to.right) (b / w) (b % w) cb (λ n. moved-below (a % w) s.to.right w n) in
    ap (λ leads. step_way (λ by. free_at free (neighbour_of w h a by)) (find leads table)) (fun_ext one)
    ∙ agree M C w free (a / w) (a % w) (b / w) (b % w) (stays h (a / w) ra) (stays w (a % w) ca) (lies h (a / w) ra (b / w) rb) (lies w (a % w) ca (b % w) cb)
