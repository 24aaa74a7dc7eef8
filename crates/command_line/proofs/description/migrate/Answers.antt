use Rattle.std.proofs.Common.{[], codes}
use Rattle.command_line.specs.{command_of, single_word}
use Rattle.command_line.proofs.description.migrate.Goals as goal

pub returns : goal.returns
returns c = c.with_option.ensures (command_of (codes "migrate") single_word []) c.in_ok-command.ensures
