use Rattle.plan_base.proofs.Common.{◌∙◌, ap, map}
use Rattle.automaton.specs.inside.{draft_row}
use Rattle.automaton.proofs.StateLemmas.{map-reverse}
use Rattle.automaton.proofs.builder.Builder.into_drafts.Goals as goal

pub returns : goal.returns
returns c = ap (map draft_row) c.reverse.ensures.items ∙ map-reverse draft_row c.args.self.drafts.items
