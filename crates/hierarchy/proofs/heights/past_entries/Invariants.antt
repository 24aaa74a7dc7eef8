use Rattle.plan_base.proofs.Common.{◌≤◌, ◌^◌, take, All}
use Rattle.hierarchy.specs.{AreEndsBelow}
use Rattle.hierarchy.proofs.heights.past_entries.Given as goal

abbrev pub invariant-loop-entry : goal.invariant-loop-entry
invariant-loop-entry l = record {
  few : l.past ≤ 2 ^ 24;
  least : l.least ≤ l.past;
  past : All (AreEndsBelow l.past) (take l.entry-index l.entries);
}
