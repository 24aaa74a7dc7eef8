use Rattle.plan_base.proofs.Common.{◌≡◌, ◌-◌}
use Rattle.file_records.specs.{one}
use Rattle.region_file.specs.{stop_front, many, stops_read}
use Rattle.region_file.proofs.LoopLemmas.{with_stops}
use Rattle.region_file.proofs.reading.stops_of.Given as goal

abbrev pub invariant-loop-number : goal.invariant-loop-number
invariant-loop-number l = with_stops l.stops.names.items l.stops.nodes.items l.number (many (one stop_front) (l.count - l.number) l.rest) ≡ stops_read l.count l.bytes
