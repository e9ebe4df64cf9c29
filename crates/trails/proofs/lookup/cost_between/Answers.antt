use Rattle.std.proofs.Common.{◌≡◌, Bor, Some, None, Option, refl, ap, ◌∙◌, rules}
use borrow.Author.Tests.{tests}
use Rattle.std.specs.Option.{option_map}
use Rattle.std.proofs.lemmas.Iterator.{YieldsList-from_slice}
use Rattle.std.proofs.lemmas.Iterator.Search.{find_from_yields_List}
use Rattle.trails.specs.declared.Record.{Record}
use Rattle.trails.specs.Trails.{names}
use Rattle.trails.proofs.Records.{found_first}
use Rattle.trails.proofs.lookup.cost_between.Goals as goal

read : {C : Type 0} (o : Option (Bor (Record C))) → option_map (λ r. r.now.cost) o ≡ option_map (λ r. r.cost) (option_map (λ y. y.now) o)
read None = refl
read (Some x) = refl

pub returns : goal.returns
returns g c =
    let e : c.map.result ≡ option_map (λ r. r.now.cost) c.find-named.result = search rules in
    let f = find_from_yields_List (λ r. names r c.args.from c.args.to) _ _ c.find-named.result c.find-named.ensures.ran (YieldsList-from_slice c.args.records.now (cc)) (λ x b q k. search (rules, tests)) in
    e ∙ read _ ∙ ap (option_map (λ r. r.cost)) f ∙ found_first c.args.records.now c.args.from c.args.to
