use Rattle.std.proofs.Common.{◌≡◌, ◌∙◌, [], ◌∷◌, ap, subst, codes, IfOk}
use Rattle.clap.specs.Words.{App, app_of, with_subcommand}
use Rattle.command_line.specs.{command_of, four, single_word, two}
use Rattle.command_line.proofs.description.with_region_commands.Goals as goal

pub returns : goal.returns
returns c =
    let first = c.in_ok-program.ensures (command_of (codes "compile") four (codes "format" ∷ codes "zone" ∷ [])) c.compile.ensures in
    let second = c.in_ok-program-2.ensures (command_of (codes "migrate") single_word (codes "format" ∷ [])) c.migrate.ensures ∙ ap (λ (app : App). with_subcommand app (command_of (codes "migrate") single_word (codes "format" ∷ []))) first in
    let third = c.in_ok-program-3.ensures (command_of (codes "contract") single_word (codes "keep" ∷ [])) c.contract.ensures ∙ ap (λ (app : App). with_subcommand app (command_of (codes "contract") single_word (codes "keep" ∷ []))) second in
    let fourth = c.in_ok-program-4.ensures (command_of (codes "check") two []) c.check.ensures ∙ ap (λ (app : App). with_subcommand app (command_of (codes "check") two [])) third in
    subst (λ (app : App). IfOk c.with_command-5.result (λ p. app_of p ≡ with_subcommand app (command_of (codes "sample") single_word []))) fourth
    (c.with_command-5.ensures (command_of (codes "sample") single_word []) c.sample.ensures)
