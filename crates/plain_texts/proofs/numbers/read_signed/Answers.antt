use Rattle.std.proofs.Common.{◌<◌, arith, unsigned_abs}
use Rattle.std.specs.Fmt.{signed_decimal}
use Rattle.plain_texts.proofs.{Signed.signed_reads, Reading.allowed_if_read}
use Rattle.plain_texts.proofs.numbers.read_signed.Goals as goal

pub returns-clause-within : goal.returns-clause-within
returns-clause-within c = rw c.signed.ensures (allowed_if_read signed_decimal (λ z. unsigned_abs z < c.args.below) c.args.text.now _ (signed_reads c.args.text.now c.args.below (omega arith)))

pub returns-clause-exact : goal.returns-clause-exact
returns-clause-exact c = rw c.signed.ensures (signed_reads c.args.text.now c.args.below (omega arith))
