-- Shown: the entry of two places tells the halves of their link.
use Rattle.std.proofs.Common.{◌≡◌, None, sym, ap, ◌∙◌, arith, rules}
use Rattle.std.specs.Option.{option_map}
use Rattle.levelling.specs.Halves.{halved}
use Rattle.levelling.proofs.Halves.{between_tells, tells_none, told_late, told_early}
use Rattle.levelling.proofs.book.Book.halves.Goals as goal

pub returns-in_default : goal.returns-in_default
returns-in_default g c =
    let book = c.args.self.now in
    tells_none book.shortcuts.items c.args.before _ c.in_default.not-Shortcut ∙ between_tells g.C.Cost book c.args.from c.args.to c.args.before _ c.between.ensures

pub returns-then-number-before : goal.returns-then-number-before
returns-then-number-before g c = told_late g.C.Cost c.args.self.now c.args.from c.args.to c.args.before _ c.between.ensures _ _ c.in-Shortcut.is c.from-number.ensures c.if-number-before.true

pub returns-in_err-shortcut : goal.returns-in_err-shortcut
returns-in_err-shortcut g c =
    let none : c.from_residual.result ≡ None = search rules in
    none ∙ ap (option_map (halved c.from-number.result)) (sym c.in_err-shortcut.was) ∙
    told_early g.C.Cost c.args.self.now c.args.from c.args.to c.args.before _ c.between.ensures _ _ c.in-Shortcut.is c.from-number.ensures _ c.shortcut.ensures (omega (arith, c.if-number-before.false))

pub returns : goal.returns
returns g c =
    ap (option_map (halved c.from-number.result)) (sym c.in_ok-shortcut.was) ∙
    told_early g.C.Cost c.args.self.now c.args.from c.args.to c.args.before _ c.between.ensures _ _ c.in-Shortcut.is c.from-number.ensures _ c.shortcut.ensures (omega (arith, c.if-number-before.false))
