use Rattle.hierarchy.proofs.Sampling.{samples}
use Rattle.hierarchy.proofs.samples_hold.Goals as goal

pub returns : goal.returns
returns c = samples
