use Rattle.std.proofs.Common.{length}
use Rattle.plain_texts.specs.{IsFixed, fixed_decimal}
use Rattle.plain_texts.proofs.{FixedDecimal.fixed_reads, Reading.allowed_if_read}
use Rattle.plain_texts.proofs.fixed.read_fixed.Goals as goal

pub returns-clause-within : goal.returns-clause-within
returns-clause-within c = rw c.number.ensures (allowed_if_read (fixed_decimal (length c.args.text.now)) (IsFixed (length c.args.text.now)) c.args.text.now _ (fixed_reads c.args.text.now))

pub returns-clause-exact : goal.returns-clause-exact
returns-clause-exact c = rw c.number.ensures (fixed_reads c.args.text.now)
