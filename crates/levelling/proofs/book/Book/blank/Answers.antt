-- Shown: a blank book has no levels and no links.
use Rattle.std.proofs.Common.{ap, ◌∙◌}
use mathlib.Core.Path.{fun_ext}
use Rattle.levelling.proofs.Writing.{alike, all_same, kept_in, apart_keeps, apart_indexed}
use Rattle.levelling.proofs.book.Book.blank.Goals as goal

pub invariant_of-result-clause-indexed : goal.invariant_of-result-clause-indexed
invariant_of-result-clause-indexed g c = apart_indexed 65536 _ _ c.apart.ensures c.new.ensures

pub returns : goal.returns
returns g c = alike (fun_ext (all_same 256 0)) (ap kept_in c.apart.ensures ∙ apart_keeps g.row.C.Denot 65536) c.new.ensures
