use Rattle.plan_base.proofs.Common.{◌≡◌, ◌-◌, None}
use Rattle.hierarchy_file.specs.{key_of_entry, many_ascending, entry_front}
use Rattle.file_records.proofs.RowLaws.{with_front}
use Rattle.hierarchy_file.proofs.records.entries_of.Given as goal

abbrev pub invariant-loop : goal.invariant-loop
invariant-loop l = with_front l.entries.items (many_ascending entry_front key_of_entry (l.count - l.counter) l.before l.rest) ≡ many_ascending entry_front key_of_entry l.count None l.bytes
