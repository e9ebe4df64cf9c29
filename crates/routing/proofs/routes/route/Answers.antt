use Rattle.std.proofs.Common.{sym, ◌∙◌, arith}
use Rattle.std.proofs.lemmas.Result.{err_from_is_err_and}
use Rattle.hierarchy.specs.Lands.{land_of}
use Rattle.levelling.specs.Meaning.{meaning}
use Rattle.routing.proofs.Answering.{refused_before, searched_after}
use Rattle.routing.proofs.routes.route.Goals as goal

pub invariant_of-query-2 : goal.invariant_of-query-2
invariant_of-query-2 g c =
    let asked = c.in_ok-check_ends.ensures.asked in
    let few = (g.G.Ground.laws c.args.ground.now).few in
    record {
      few = omega (arith, c.size.ensures);
      ends = (omega (arith, c.size.ensures, asked.0), omega (arith, c.size.ensures, asked.1));
    }

pub returns-in_err-check_ends : goal.returns-in_err-check_ends
returns-in_err-check_ends g c =
    let p = err_from_is_err_and c.from_residual.result c.from_residual.ensures.1 in
    rw (p.1, p.2)
    (refused_before (land_of g.G.C.Cost g.G.Ground c.args.ground.now) (meaning g.G.C.Cost c.args.book.now) c.args.top c.args.from c.args.to
    c.args.table.now c.args.list.now _ (sym c.in_err-check_ends.was ∙ c.check_ends.ensures.is))

pub returns : goal.returns
returns g c =
    let land = land_of g.G.C.Cost g.G.Ground c.args.ground.now in
    c.answer.ensures land (sym c.size.ensures) ∙
    searched_after land (meaning g.G.C.Cost c.args.book.now) c.args.top c.args.from c.args.to
    c.args.table.now c.args.list.now c.in_ok-check_ends.ensures.is
