use Rattle.promises.proofs.SampleLemmas.{sample_city_is_faultless}
use Rattle.promises.proofs.samples.sample_city_is_faultless.Goals as goal

pub returns : goal.returns
returns c = sample_city_is_faultless
