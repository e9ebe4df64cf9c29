-- Shown: the entry of two places gives the link that the book means.
use Rattle.std.proofs.Common.{◌≡◌, min, false, not, ◌&&◌, eqb, ltb, None, sym, ap, ◌∙◌, arith, rules}
use Rattle.std.proofs.lemmas.Bool.{cond-false}
use Rattle.std.proofs.lemmas.Bool.Decides.{nat_tests}
use Rattle.std.specs.Option.{option_map}
use Rattle.levelling.proofs.Reading.{link_is, link_of}
use Rattle.levelling.proofs.book.Book.link.Goals as goal

pub returns-then-from-size : goal.returns-then-from-size
returns-then-from-size g c =
    let n = min c.args.size 256 in
    let out : (ltb c.args.from n && (ltb c.args.to n && not (eqb c.args.from c.args.to))) ≡ false = grind (arith, nat_tests, c.then-from-size.either, c.min-size.ensures) in
    sym (cond-false _ _ _ out)

pub returns-in-Apart : goal.returns-in-Apart
returns-in-Apart g c =
    link_is c.args.self.now c.args.from c.args.to _ (sym c.in-Apart.is ∙ c.between.ensures) g.C.Cost c.args.size (omega arith) (omega arith) c.if-from-to.false

pub returns-in-Way : goal.returns-in-Way
returns-in-Way g c =
    link_is c.args.self.now c.args.from c.args.to _ (sym c.in-Way.is ∙ c.between.ensures) g.C.Cost c.args.size (omega arith) (omega arith) c.if-from-to.false

pub returns-in_err-shortcut-in-Shortcut : goal.returns-in_err-shortcut-in-Shortcut
returns-in_err-shortcut-in-Shortcut g c =
    let none : c.from_residual.result ≡ None = search rules in
    none ∙ ap (option_map (λ s. s.cost)) (sym c.in_err-shortcut-in-Shortcut.was) ∙
    link_of c.args.self.now c.args.from c.args.to _ c.between.ensures _ _ _ c.in-Shortcut.is c.from.ensures c.shortcut.ensures g.C.Cost c.args.size (omega arith) (omega arith) c.if-from-to.false

pub returns-in_ok-shortcut-in-Shortcut : goal.returns-in_ok-shortcut-in-Shortcut
returns-in_ok-shortcut-in-Shortcut g c =
    ap (option_map (λ s. s.cost)) (sym c.in_ok-shortcut-in-Shortcut.was) ∙
    link_of c.args.self.now c.args.from c.args.to _ c.between.ensures _ _ _ c.in-Shortcut.is c.from.ensures c.shortcut.ensures g.C.Cost c.args.size (omega arith) (omega arith) c.if-from-to.false
