use Rattle.plan_base.proofs.Common.{◌≡◌, map, string_bytes, take}
use Rattle.plain_texts.specs.{lines_text}
use Rattle.journey_book.proofs.showing.listed.Given as goal

abbrev pub invariant-loop-name : goal.invariant-loop-name
invariant-loop-name l = l.text.items ≡ lines_text (map string_bytes (take l.name-index l.names))
