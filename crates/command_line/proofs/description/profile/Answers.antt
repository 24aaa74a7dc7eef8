use Rattle.std.proofs.Common.{[], ◌∷◌, codes}
use Rattle.command_line.specs.{command_of, two}
use Rattle.command_line.proofs.description.profile.Goals as goal

pub returns : goal.returns
returns c =
    let window = c.in_ok-command-2.ensures (command_of (codes "profile") two []) c.in_ok-command.ensures in
    c.with_places.ensures (command_of (codes "profile") two (codes "window" ∷ [])) window
