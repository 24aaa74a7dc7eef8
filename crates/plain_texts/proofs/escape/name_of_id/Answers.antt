use Rattle.std.proofs.Common.{sym, ◌∙◌}
use Rattle.plain_texts.proofs.EscapeLaws.{escaped_is_some}
use Rattle.plain_texts.proofs.escape.name_of_id.Goals as goal

pub unreachable-requires : goal.unreachable-requires
unreachable-requires c = escaped_is_some c.args.id.now c.in_ok-bytes.bytes.items c.in_ok-bytes.ensures c.requires.some c.requires.short (sym c.new.ensures ∙ c.in-None.is)
