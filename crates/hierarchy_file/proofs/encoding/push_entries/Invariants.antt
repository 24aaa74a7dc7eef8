use Rattle.plan_base.proofs.Common.{◌≡◌, ◌++◌, ◌<◌, ◌^◌, take, All, flat_map}
use Rattle.hierarchy.specs.{Entry}
use Rattle.hierarchy_file.specs.{entry_text}
use Rattle.hierarchy_file.proofs.encoding.push_entries.Given as goal

abbrev pub invariant-loop-entry : goal.invariant-loop-entry
invariant-loop-entry l = record {
  text : l.out.items ≡ l.fn.out.items ++ flat_map entry_text (take l.entry-index l.entries);
  fit : All (λ (entry : Entry). entry.weight < 2 ^ 64) (take l.entry-index l.entries);
}
