use Rattle.plan_base.proofs.Common.{◌≡◌, ◌-◌}
use Rattle.file_records.specs.{one}
use Rattle.region_file.specs.{many}
use Rattle.file_records.proofs.RowLaws.{with_front}
use Rattle.region_file.proofs.reading.rows_of.Given as goal

abbrev pub invariant-loop : goal.invariant-loop
invariant-loop g l = with_front l.rows.items (many (one g.K.RecordKind.told) (l.count - l.counter) l.rest) ≡ many (one g.K.RecordKind.told) l.count l.bytes
