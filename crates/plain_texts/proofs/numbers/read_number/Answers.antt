use Rattle.std.proofs.Common.{◌<◌, decimal}
use Rattle.plain_texts.proofs.{Decimal.number_reads, Reading.allowed_if_read}
use Rattle.plain_texts.proofs.numbers.read_number.Goals as goal

pub returns-clause-within : goal.returns-clause-within
returns-clause-within c = rw c.number.ensures (allowed_if_read decimal (λ n. n < c.args.below) c.args.text.now _ (number_reads c.args.text.now c.args.below c.requires))

pub returns-clause-exact : goal.returns-clause-exact
returns-clause-exact c = rw c.number.ensures (number_reads c.args.text.now c.args.below c.requires)
