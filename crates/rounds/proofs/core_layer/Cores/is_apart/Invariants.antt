use Rattle.plan_base.proofs.Common.{AllWithin}
use Rattle.hierarchy.specs.{Entry}
use Rattle.rounds.proofs.LayerLemmas.{IsApartAt}
use Rattle.rounds.proofs.core_layer.Cores.is_apart.Given as goal

abbrev pub invariant-loop-entry : goal.invariant-loop-entry
invariant-loop-entry l = record { apart : AllWithin (λ (e : Entry). IsApartAt l.sheet.slope.nodes.items e.from e.to) l.entry-items 0 l.entry-index }
