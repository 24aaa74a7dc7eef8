use Rattle.memchr.specs.Find.{is_byte}
use Rattle.plain_texts.proofs.FirstBytes.{position_of_first}
use Rattle.opl_reader.proofs.cuts.place_of_byte.Goals as goal

pub returns : goal.returns
returns c = position_of_first (is_byte c.args.byte) c.args.text.now c.memchr.result c.memchr.ensures
