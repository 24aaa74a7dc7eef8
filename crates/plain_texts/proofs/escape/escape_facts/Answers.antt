use Rattle.plain_texts.proofs.EscapeLaws.{escaped_of_one, escaped_is_name, length-escaped}
use Rattle.plain_texts.proofs.escape.escape_facts.Goals as goal

pub returns-clause-injective : goal.returns-clause-injective
returns-clause-injective c = escaped_of_one

pub returns-clause-name : goal.returns-clause-name
returns-clause-name c = escaped_is_name

pub returns-clause-length : goal.returns-clause-length
returns-clause-length c = length-escaped
