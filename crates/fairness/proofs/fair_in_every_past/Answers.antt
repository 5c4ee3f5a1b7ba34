use Rattle.fairness.proofs.Fair.{fair_in_every_past}
use Rattle.fairness.proofs.fair_in_every_past.Goals as goal

pub returns : goal.returns
returns g c = fair_in_every_past g.R.Reference.meaning g.met.R.Reference.lawful
