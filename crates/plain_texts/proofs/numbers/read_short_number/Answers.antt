use Rattle.std.proofs.Common.{◌<◌, arith, decimal}
use Rattle.plain_texts.proofs.{Decimal.number_reads, Reading.allowed_if_read}
use Rattle.plain_texts.proofs.numbers.read_short_number.Goals as goal

pub returns-clause-within : goal.returns-clause-within
returns-clause-within c = rw c.short_number.ensures (allowed_if_read decimal (λ n. n < c.args.below) c.args.text.now _ (number_reads c.args.text.now c.args.below (omega arith)))

pub returns-clause-exact : goal.returns-clause-exact
returns-clause-exact c = rw c.short_number.ensures (number_reads c.args.text.now c.args.below (omega arith))
