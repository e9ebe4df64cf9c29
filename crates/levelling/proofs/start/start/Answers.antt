use Rattle.std.proofs.Common.{ℕ, ap, subst, arith}
use Rattle.hierarchy.specs.Lands.{terrain_of}
use Rattle.hierarchy.proofs.Lands.{lawful_land}
use Rattle.levelling.specs.Meaning.{meaning}
use Rattle.levelling.proofs.Fits.{book_fits}
use Rattle.levelling.specs.Beaten.{BeatenAside}
use Rattle.levelling.proofs.Starting.{none_yet, started}
use Rattle.levelling.proofs.start.start.Goals as goal

pub set_beaten_aside-requires : goal.set_beaten_aside-requires
set_beaten_aside-requires g c =
    let k = g.G.C.Cost in
    let ground = c.args.ground.now in
    let laws = g.G.Ground.laws ground in
    let terrain = terrain_of k g.G.Ground ground in
    let shut = g.G.Ground.shuts ground in
    let blank = c.requires in (
      book_fits _ _ g.met.G.C.Cost.narrow g.met.G.C.Cost.small,
      (
        omega (arith, c.size.ensures, laws.few),
        none_yet terrain shut (lawful_land terrain shut laws shut) _ _ _ (λ x. ap (λ b. b.level x) blank) (λ x y. ap (λ b. b.kept x y) blank) (ap (λ b. b.shortcuts) blank)
            c.enter_levels.ensures c.enter_ways.ensures,
      ),
    )

pub returns : goal.returns
returns g c =
    let k = g.G.C.Cost in
    let ground = c.args.ground.now in
    let laws = g.G.Ground.laws ground in
    let terrain = terrain_of k g.G.Ground ground in
    let shut = g.G.Ground.shuts ground in
    let blank = c.requires in
    started terrain shut (lawful_land terrain shut laws shut) _ _ _ (λ x. ap (λ b. b.level x) blank) (λ x y. ap (λ b. b.kept x y) blank) (ap (λ b. b.shortcuts) blank)
    c.enter_levels.ensures c.enter_ways.ensures _
    (subst (λ (n : ℕ). BeatenAside n (meaning k c.enter_ways.new.book) (meaning k c.set_beaten_aside.new.book)) c.size.ensures c.set_beaten_aside.ensures)
