use Rattle.std.proofs.Common.{◌≡◌, ℕ, zero, suc, false, get_or, take, replicate, refl}
use mathlib.Core.Path.{fun_ext}
use Rattle.ground.proofs.places.Places.all_free.Goals as goal

none_shut : (m n k : ℕ) → get_or (take n (replicate m false)) k false ≡ false
none_shut m zero k = refl
none_shut zero (suc n) k = refl
none_shut (suc m) (suc n) zero = refl
none_shut (suc m) (suc n) (suc k) = none_shut m n k

pub returns-clause-shut : goal.returns-clause-shut
returns-clause-shut c = fun_ext (λ k. rw (c.truncate.ensures.items, c.from-shut.ensures.0) (none_shut 256 c.args.size k))
