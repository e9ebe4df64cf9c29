use Rattle.hierarchy.specs.Lands.{terrain_of, land_of}
use Rattle.hierarchy.proofs.Lands.{lawful_land}
use Rattle.hierarchy.proofs.LeastWalks.{least_walks_keep, fair_land}
use Rattle.hierarchy.proofs.walks.least_walks_keep.Goals as goal

pub returns : goal.returns
returns g c =
    let ground = c.args.ground.now in
    let shut = g.G.Ground.shuts ground in
    let terrain = terrain_of g.G.C.Cost g.G.Ground ground in
    least_walks_keep (land_of g.G.C.Cost g.G.Ground ground) (lawful_land terrain shut (g.G.Ground.laws ground) shut)
    (fair_land terrain shut c.way.ensures.fair)
