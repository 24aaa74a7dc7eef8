use Rattle.memchr.specs.Find.{is_byte}
use Rattle.plain_texts.proofs.FirstBytes.{position_of_first}
use Rattle.request_commands.proofs.asked.space_at.Goals as goal

pub returns : goal.returns
returns c = position_of_first (is_byte 32) c.args.text.now c.memchr.result c.memchr.ensures
