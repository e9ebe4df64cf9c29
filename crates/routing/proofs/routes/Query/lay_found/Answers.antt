use Rattle.std.proofs.Common.{sym, ◌∙◌, subst}
use Rattle.routing.specs.Placed.{Near}
use Rattle.routing.proofs.routes.Query.lay_found.Goals as goal

pub lay_out-requires : goal.lay_out-requires
lay_out-requires g c = subst Near (sym (c.places.ensures.places ∙ c.chain_back-chain.ensures.places)) c.requires
