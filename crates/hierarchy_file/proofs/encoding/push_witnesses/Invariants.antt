use Rattle.plan_base.proofs.Common.{◌≡◌, ◌++◌, ◌<◌, ◌^◌, length, take, All, flat_map}
use Rattle.hierarchy.specs.{WitnessLists}
use Rattle.hierarchy_file.specs.{witness_text}
use Rattle.hierarchy_file.proofs.encoding.push_witnesses.Given as goal

abbrev pub invariant-loop-place : goal.invariant-loop-place
invariant-loop-place l = record {
  text : l.out.items ≡ l.fn.out.items ++ flat_map witness_text (take l.place l.witnesses);
  fit : All (λ (witness : WitnessLists). length witness.nodes < 2 ^ 64) (take l.place l.witnesses);
}
