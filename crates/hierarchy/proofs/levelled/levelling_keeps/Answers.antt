use Rattle.hierarchy.specs.Lands.{terrain_of, land_of}
use Rattle.hierarchy.proofs.Lands.{lawful_land}
use Rattle.hierarchy.proofs.Needed.{need_is_tested}
use Rattle.hierarchy.proofs.Rounds.{well_levelled}
use Rattle.hierarchy.proofs.levelled.levelling_keeps.Goals as goal

pub returns : goal.returns
returns g c =
    let ground = c.args.ground.now in
    let shut = g.G.Ground.shuts ground in
    let land = land_of g.G.C.Cost g.G.Ground ground in record {
      kept = well_levelled land (lawful_land (terrain_of g.G.C.Cost g.G.Ground ground) shut (g.G.Ground.laws ground) shut);
      tested = need_is_tested;
    }
