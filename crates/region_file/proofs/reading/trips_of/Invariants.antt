use Rattle.plan_base.proofs.Common.{◌≡◌, ◌-◌}
use Rattle.region_file.specs.{many, trip_read}
use Rattle.file_records.proofs.RowLaws.{with_front}
use Rattle.region_file.proofs.reading.trips_of.Given as goal

abbrev pub invariant-loop : goal.invariant-loop
invariant-loop l = with_front l.trips.items (many trip_read (l.count - l.counter) l.rest) ≡ many trip_read l.count l.bytes
