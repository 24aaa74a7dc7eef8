use Rattle.std.proofs.Common.{◌≡◌, ◌∙◌, [], ◌∷◌, ap, subst, codes, IfOk}
use Rattle.clap.specs.Words.{App, app_of, with_subcommand}
use Rattle.command_line.specs.{command_of, limits, six, two}
use Rattle.command_line.proofs.description.with_many_commands.Goals as goal

pub returns : goal.returns
returns c =
    let first = c.in_ok-program.ensures (command_of (codes "profile") two (codes "window" ∷ codes "places" ∷ [])) c.profile.ensures in
    let second = c.in_ok-program-2.ensures (command_of (codes "matrix") six (codes "hierarchy" ∷ codes "places" ∷ [])) c.matrix.ensures ∙ ap (λ (app : App). with_subcommand app (command_of (codes "matrix") six (codes "hierarchy" ∷ codes "places" ∷ []))) first in
    subst (λ (app : App). IfOk c.with_command-3.result (λ p. app_of p ≡ with_subcommand app (command_of (codes "requests") two (codes "hierarchy" ∷ limits)))) second
    (c.with_command-3.ensures (command_of (codes "requests") two (codes "hierarchy" ∷ limits)) c.requests.ensures)
