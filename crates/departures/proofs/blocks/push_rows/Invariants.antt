use Rattle.plan_base.proofs.Common.{take}
use Rattle.journey.specs.{AddsText}
use Rattle.departures.specs.{AreRowsTold}
use Rattle.departures.proofs.blocks.push_rows.Given as goal

abbrev pub invariant-loop-row : goal.invariant-loop-row
invariant-loop-row l = AddsText (AreRowsTold l.network (take l.row-index l.rows)) l.initial.out.items l.out.items
