use Rattle.routing.proofs.Marking.{none_marked, one-marked}
use Rattle.routing.proofs.climb.only.Goals as goal

pub returns-then-place-lt256 : goal.returns-then-place-lt256
returns-then-place-lt256 c x = one-marked 256 c.args.place x c.if-place-lt256.true

pub returns-else-place-lt256 : goal.returns-else-place-lt256
returns-else-place-lt256 c x = none_marked 256 c.args.place x c.if-place-lt256.false
