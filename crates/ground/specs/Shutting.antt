-- What shutting and clearing do.
--   refuses_shut, refuses_clear  why the call is refused, if it is
--   with_place, without_place    the set with the place in it, and without it
--   Marked   the answer, and the size and the set of shut places after a call that may alter the set
--   Altered  the same of a ground, which keeps its chart
--   Shut, Cleared                the effect of shutting and of clearing
use Rattle.std.specs.Prelude.{◌≡◌, ℕ, Bool, true, false, cond, Some, None, Option, Result, ◌==◌, nat_lt}
use Rattle.ground.specs.declared.refusal.Refusal.{Refusal}
use Rattle.ground.specs.declared.refusal.Refusal.TheVariants.{OffGround, AlreadyShut, AlreadyFree}
use Rattle.ground.specs.Refusals.{outcome}

abbrev pub refuses_shut : ℕ → (ℕ → Bool) → ℕ → Option Refusal
refuses_shut size shut p = cond (nat_lt p size) (cond (shut p) (Some (AlreadyShut 0)) None) (Some (OffGround 0))

abbrev pub refuses_clear : ℕ → (ℕ → Bool) → ℕ → Option Refusal
refuses_clear size shut p = cond (nat_lt p size) (cond (shut p) None (Some AlreadyFree)) (Some (OffGround 0))

abbrev pub with_place : ℕ → (ℕ → Bool) → ℕ → Bool
with_place p shut k = cond (k == p) true (shut k)

abbrev pub without_place : ℕ → (ℕ → Bool) → ℕ → Bool
without_place p shut k = cond (k == p) false (shut k)

-- a refusal leaves the set as it was
abbrev pub unless_refused : Option Refusal → (ℕ → Bool) → (ℕ → Bool) → ℕ → Bool
unless_refused None new old = new
unless_refused (Some r) new old = old

pub record Marked {G : Type 0} (size : G → ℕ) (shuts : G → ℕ → Bool) (refusal : Option Refusal) (new : ℕ → Bool) (g h : G) (r : Result (Unit {0}) Refusal) : Type 0 where
  pub answer : r ≡ outcome refusal
  pub size-kept : size h ≡ size g
  pub shut_now : shuts h ≡ unless_refused refusal new (shuts g)

pub record Altered {G C : Type 0} (size : G → ℕ) (shuts : G → ℕ → Bool) (chart : G → (ℕ → Bool) → ℕ → ℕ → Option C)
    (refusal : Option Refusal) (new : ℕ → Bool) (g h : G) (r : Result (Unit {0}) Refusal) : Type 0 where
  pub marked : Marked size shuts refusal new g h r
  pub chart-kept : chart h ≡ chart g

abbrev pub Shut : {G C : Type 0} → (G → ℕ) → (G → ℕ → Bool) → (G → (ℕ → Bool) → ℕ → ℕ → Option C) → ℕ → G → G → Result (Unit {0}) Refusal → Type 0
Shut size shuts chart p g = Altered size shuts chart (refuses_shut (size g) (shuts g) p) (with_place p (shuts g)) g

abbrev pub Cleared : {G C : Type 0} → (G → ℕ) → (G → ℕ → Bool) → (G → (ℕ → Bool) → ℕ → ℕ → Option C) → ℕ → G → G → Result (Unit {0}) Refusal → Type 0
Cleared size shuts chart p g = Altered size shuts chart (refuses_clear (size g) (shuts g) p) (without_place p (shuts g)) g
