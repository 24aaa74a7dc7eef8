use Rattle.std.proofs.Common.{[], codes}
use Rattle.command_line.specs.{command_of, two}
use Rattle.command_line.proofs.description.few.Goals as goal

pub returns : goal.returns
returns c = c.with_places.ensures (command_of (codes "few") two []) c.in_ok-command.ensures
