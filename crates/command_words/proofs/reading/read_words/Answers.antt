use Rattle.plan_base.proofs.Common.{map, string_bytes}
use Rattle.command_words.proofs.PlainForms.{plain_asks}
use Rattle.command_words.proofs.reading.read_words.Goals as goal

pub returns-in_err-matches-clause-plain : goal.returns-in_err-matches-clause-plain
returns-in_err-matches-clause-plain c = plain_asks (map string_bytes c.args.words.now)

pub returns-in-Some-clause-plain : goal.returns-in-Some-clause-plain
returns-in-Some-clause-plain c = plain_asks (map string_bytes c.args.words.now)

pub returns-clause-plain : goal.returns-clause-plain
returns-clause-plain c = plain_asks (map string_bytes c.args.words.now)
