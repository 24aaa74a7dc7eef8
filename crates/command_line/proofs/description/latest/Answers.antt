use Rattle.std.proofs.Common.{[], codes}
use Rattle.command_line.specs.{command_of, two}
use Rattle.command_line.proofs.description.latest.Goals as goal

pub returns : goal.returns
returns c = c.with_limits.ensures (command_of (codes "latest") two []) c.in_ok-command.ensures
