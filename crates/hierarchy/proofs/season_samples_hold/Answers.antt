use Rattle.hierarchy.proofs.Sampling.{season_samples}
use Rattle.hierarchy.proofs.season_samples_hold.Goals as goal

pub returns : goal.returns
returns c = season_samples
