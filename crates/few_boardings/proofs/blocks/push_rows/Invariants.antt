use Rattle.plan_base.proofs.Common.{take}
use Rattle.journey.specs.{AddsText}
use Rattle.few_boardings.specs.{AreBoardingsTold}
use Rattle.few_boardings.proofs.blocks.push_rows.Given as goal

abbrev pub invariant-loop-row : goal.invariant-loop-row
invariant-loop-row l = AddsText (AreBoardingsTold l.network (take l.row-index l.rows)) l.initial.out.items l.out.items
