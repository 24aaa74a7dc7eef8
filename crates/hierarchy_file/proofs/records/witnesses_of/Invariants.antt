use Rattle.plan_base.proofs.Common.{◌≡◌, ◌-◌, None}
use Rattle.hierarchy_file.specs.{key_of_witness, many_ascending, witness_at}
use Rattle.file_records.proofs.RowLaws.{with_front}
use Rattle.hierarchy_file.proofs.records.witnesses_of.Given as goal

abbrev pub invariant-loop : goal.invariant-loop
invariant-loop l = with_front l.witnesses (many_ascending witness_at key_of_witness (l.count - l.counter) l.before l.rest) ≡ many_ascending witness_at key_of_witness l.count None l.bytes
