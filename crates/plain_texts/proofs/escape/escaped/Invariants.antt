use Rattle.std.proofs.Common.{◌≡◌, take, flat_map}
use Rattle.plain_texts.specs.{escaped_byte}
use Rattle.plain_texts.proofs.escape.escaped.Given as goal

abbrev pub invariant-loop-byte : goal.invariant-loop-byte
invariant-loop-byte l = l.bytes.items ≡ flat_map escaped_byte (take l.byte-index l.id)
