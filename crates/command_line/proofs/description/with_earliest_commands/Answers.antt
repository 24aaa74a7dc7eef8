use Rattle.std.proofs.Common.{◌≡◌, ◌∙◌, [], ◌∷◌, ap, subst, codes, IfOk}
use Rattle.clap.specs.Words.{App, app_of, with_subcommand}
use Rattle.command_line.specs.{command_of, limits, two}
use Rattle.command_line.proofs.description.with_earliest_commands.Goals as goal

pub returns : goal.returns
returns c =
    let first = c.in_ok-program.ensures (command_of (codes "answer") two (codes "hierarchy" ∷ limits)) c.answer.ensures in
    let second = c.in_ok-program-2.ensures (command_of (codes "certify") two (codes "hierarchy" ∷ limits)) c.certify.ensures ∙ ap (λ (app : App). with_subcommand app (command_of (codes "certify") two (codes "hierarchy" ∷ limits))) first in
    let third = c.in_ok-program-3.ensures (command_of (codes "verify") two (codes "hierarchy" ∷ [])) c.verify.ensures ∙ ap (λ (app : App). with_subcommand app (command_of (codes "verify") two (codes "hierarchy" ∷ []))) second in
    subst (λ (app : App). IfOk c.with_command-4.result (λ p. app_of p ≡ with_subcommand app (command_of (codes "few") two (codes "places" ∷ [])))) third
    (c.with_command-4.ensures (command_of (codes "few") two (codes "places" ∷ [])) c.few.ensures)
