use Rattle.std.proofs.Common.{◌≡◌, ◌∙◌, [], ap, subst, codes, IfOk}
use Rattle.clap.specs.Words.{App, app_of, with_subcommand}
use Rattle.command_line.specs.{command_of, limits, two}
use Rattle.command_line.proofs.description.with_latest_commands.Goals as goal

pub returns : goal.returns
returns c =
    let first = c.in_ok-program.ensures (command_of (codes "latest") two limits) c.latest.ensures in
    let second = c.in_ok-program-2.ensures (command_of (codes "certify-latest") two limits) c.certify_latest.ensures ∙ ap (λ (app : App). with_subcommand app (command_of (codes "certify-latest") two limits)) first in
    subst (λ (app : App). IfOk c.with_command-3.result (λ p. app_of p ≡ with_subcommand app (command_of (codes "verify-latest") two []))) second
    (c.with_command-3.ensures (command_of (codes "verify-latest") two []) c.verify_latest.ensures)
