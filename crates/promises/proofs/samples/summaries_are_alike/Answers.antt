use Rattle.promises.proofs.SampleLemmas.{summaries_are_alike}
use Rattle.promises.proofs.samples.summaries_are_alike.Goals as goal

pub returns : goal.returns
returns c = summaries_are_alike
