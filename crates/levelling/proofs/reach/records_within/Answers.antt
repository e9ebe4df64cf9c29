use Rattle.std.proofs.Common.{◌≡◌, length, take, replicate, arith}
use Rattle.std.proofs.lemmas.List.{length-take-le, length-replicate}
use Rattle.levelling.proofs.Reaching.{reached_before}
use Rattle.levelling.proofs.reach.records_within.Goals as goal

pub returns : goal.returns
returns g c =
    let t = replicate 256 c.default-records.result in
    let n = c.args.size in
    let all : length (take n t) ≡ n = length-take-le n t (omega (arith, length-replicate 256 c.default-records.result)) in
    reached_before g.S.C.Cost _ c.args.start _ n all c.args.bound c.reach_in.new.table c.reach_in.ensures _ c.reach_in.auto.table
