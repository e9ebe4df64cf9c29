use Rattle.std.proofs.Common.{false, None, refl, arith}
use Rattle.hierarchy.specs.Kinds.{kind_of}
use Rattle.hierarchy.specs.Lands.{Land}
use Rattle.levelling.specs.Meaning.{meaning}
use Rattle.levelling.proofs.FitsNeeded.{needed_fits}
use Rattle.levelling.proofs.Fits.{book_fits}
use Rattle.levelling.specs.Listed.{listed}
use Rattle.levelling.proofs.Visiting.{fitting}
use Rattle.levelling.proofs.rounds.Round.visit.Goals as goal

pub append_to-requires : goal.append_to-requires
append_to-requires g c =
    let k = g.C.Cost in
    let land : Land (kind_of k) = record { size = c.args.self.now.size; free = λ x. false; way = λ x y. None } in
    let book = meaning k c.args.book.now in
    let rule = g.R.Rule.pairs c.args.self.now.rule.now in
    let found = listed c.in-Some.needed in
    let told = c.in-Some.ensures land refl in (
      needed_fits _ _ g.met.C.Cost.narrow g.met.C.Cost.small,
      (
        book_fits _ _ g.met.C.Cost.narrow g.met.C.Cost.small,
        fitting k rule c.args.self.now.lower book c.args.middle land (omega arith) found told,
      ),
    )
