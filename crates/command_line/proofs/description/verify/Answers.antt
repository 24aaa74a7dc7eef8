use Rattle.std.proofs.Common.{[], codes}
use Rattle.command_line.specs.{command_of, two}
use Rattle.command_line.proofs.description.verify.Goals as goal

pub returns : goal.returns
returns c = c.with_hierarchy.ensures (command_of (codes "verify") two []) c.in_ok-over_two.ensures
