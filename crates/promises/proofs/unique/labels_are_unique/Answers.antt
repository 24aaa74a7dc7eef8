use Rattle.promises.proofs.LabelsLemmas.{labels_are_unique}
use Rattle.promises.proofs.unique.labels_are_unique.Goals as goal

pub returns : goal.returns
returns c = labels_are_unique
