use Rattle.std.proofs.Common.{[], ◌∷◌, codes}
use Rattle.command_line.specs.{command_of, two}
use Rattle.command_line.proofs.description.answer.Goals as goal

pub returns : goal.returns
returns c =
    let over = c.in_ok-command-2.ensures (command_of (codes "answer") two []) c.in_ok-command.ensures in
    c.with_limits.ensures (command_of (codes "answer") two (codes "hierarchy" ∷ [])) over
