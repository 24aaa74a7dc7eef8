use Rattle.std.proofs.Common.{◌≡◌, ◌∙◌, ap, subst, codes, IfOk, fold}
use Rattle.clap.specs.Words.{App, app_of, new_app, with_subcommand}
use Rattle.clap.specs.Simple.{app_of_fields}
use Rattle.command_line.specs.{region_commands, earliest_commands, latest_commands, many_commands}
use Rattle.command_line.proofs.description.modeplan.Goals as goal

pub returns : goal.returns
returns c =
    let named : app_of c.in_ok-program.program ≡ new_app (codes "modeplan") = ap app_of_fields c.in_ok-program.ensures.0 ∙ c.named.ensures.0 in
    let first = c.in_ok-program-2.ensures ∙ ap (λ (app : App). fold with_subcommand app region_commands) named in
    let second = c.in_ok-program-3.ensures ∙ ap (λ (app : App). fold with_subcommand app earliest_commands) first in
    let third = c.in_ok-program-4.ensures ∙ ap (λ (app : App). fold with_subcommand app latest_commands) second in
    subst (λ (app : App). IfOk c.with_many_commands.result (λ p. app_of p ≡ fold with_subcommand app many_commands)) third
    c.with_many_commands.ensures
