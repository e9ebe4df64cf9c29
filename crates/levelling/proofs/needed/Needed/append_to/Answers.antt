use Rattle.std.proofs.Common.{length, ap, ◌∙◌, take_all, arith}
use Rattle.levelling.specs.Meaning.{meaning}
use Rattle.levelling.specs.Listed.{with_all}
use Rattle.levelling.proofs.AppendingAll.{one_more}
use Rattle.levelling.proofs.needed.Needed.append_to.Goals as goal

pub loop-shortcut-preserved : goal.loop-shortcut-preserved
loop-shortcut-preserved g c =
    let same = c.as_slice-shortcut-items.ensures.value in
    one_more (meaning g.C.Cost c.args.book.now) c.args.self.now.shortcuts.items c.loop-shortcut.shortcut-index c.shortcut-item.result (omega (arith, ap length same)) (rw same at c.shortcut-item.is)
    c.requires _ _ c.loop-shortcut.invariant c.append.ensures.appended

pub returns : goal.returns
returns g c =
    let same = c.as_slice-shortcut-items.ensures.value in
    c.loop-shortcut.invariant ∙ ap (λ l. with_all l (meaning g.C.Cost c.args.book.now)) (take_all c.loop-shortcut.shortcut-index c.args.self.now.shortcuts.items (omega (arith, ap length same)))
