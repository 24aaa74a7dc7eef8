use Rattle.plain_texts.specs.{IsHexadecimal, hexadecimal}
use Rattle.plain_texts.proofs.{Hexadecimal.hexadecimal_reads, Reading.allowed_if_read}
use Rattle.plain_texts.proofs.hexadecimals.read_hexadecimal.Goals as goal

pub returns-clause-within : goal.returns-clause-within
returns-clause-within c = rw c.number.ensures (allowed_if_read hexadecimal IsHexadecimal c.args.text.now _ (hexadecimal_reads c.args.text.now))

pub returns-clause-exact : goal.returns-clause-exact
returns-clause-exact c = rw c.number.ensures (hexadecimal_reads c.args.text.now)
