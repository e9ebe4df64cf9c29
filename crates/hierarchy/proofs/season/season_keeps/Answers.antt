use Rattle.hierarchy.specs.Lands.{terrain_of}
use Rattle.hierarchy.proofs.Lands.{lawful_land}
use Rattle.hierarchy.proofs.Rounds.{well_levelled}
use Rattle.hierarchy.proofs.Search.{well_searched}
use Rattle.hierarchy.proofs.Guaranteed.{season_kept}
use Rattle.hierarchy.proofs.season.season_keeps.Goals as goal

pub returns : goal.returns
returns g c =
    let ground = c.args.ground.now in
    let terrain = terrain_of g.G.C.Cost g.G.Ground ground in
    let first = g.G.Ground.shuts ground in
    let laws = g.G.Ground.laws ground in
    season_kept terrain first laws (lawful_land terrain first laws) well_levelled well_searched
