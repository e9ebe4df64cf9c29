use Rattle.std.proofs.Common.{Some, None, Err, rules}
use Rattle.std.proofs.lemmas.Result.{err_from_is_err_and}
use Rattle.levelling.specs.Meaning.{meaning}
use Rattle.routing.specs.Placed.{places_of}
use Rattle.routing.proofs.Dividing.{laid_by_halves, near_and_less}
use Rattle.routing.proofs.Room.{still_long, both_parts}
use Rattle.routing.proofs.layout.DividedBook.+lay.Goals as goal

pub returns-in_default : goal.returns-in_default
returns-in_default g t c =
    laid_by_halves (meaning g.C.Cost c.args.self.now.book.now) c.args.from c.args.to c.args.before None c.requires.ends c.in_default.ensures
    c.append.result (places_of c.args.laid.now) _ c.append.ensures

pub lay-requires : goal.lay-requires
lay-requires g t c κs within =
    let d = near_and_less (meaning g.C.Cost c.args.self.now.book.now) c.args.from c.args.to c.args.before c.in-Some.halves
    c.in-Some.ensures c.args.self.now.middles in
    search rules

pub returns-in_err-lay : goal.returns-in_err-lay
returns-in_err-lay g t c =
    let p = err_from_is_err_and c.from_residual.result c.from_residual.ensures.1 in
    rw p.1
    (laid_by_halves (meaning g.C.Cost c.args.self.now.book.now) c.args.from c.args.to c.args.before (Some c.in-Some.halves)
    c.requires.ends c.in-Some.ensures (Err p.0) (places_of c.args.laid.now) (places_of c.lay.new.laid)
    (still_long (places_of c.args.laid.now) _ _ c.in_err-lay.ensures))

pub lay-requires-2 : goal.lay-requires-2
lay-requires-2 g t c κs within =
    let d = near_and_less (meaning g.C.Cost c.args.self.now.book.now) c.args.from c.args.to c.args.before c.in-Some.halves
    c.in-Some.ensures c.args.self.now.middles in
    search rules

pub returns : goal.returns
returns g t c =
    laid_by_halves (meaning g.C.Cost c.args.self.now.book.now) c.args.from c.args.to c.args.before (Some c.in-Some.halves)
    c.requires.ends c.in-Some.ensures c.lay-2.result (places_of c.args.laid.now) _
    (both_parts c.lay-2.result (places_of c.args.laid.now) _ _ (places_of c.lay.new.laid) _ c.in_ok-lay.ensures c.lay-2.ensures)
