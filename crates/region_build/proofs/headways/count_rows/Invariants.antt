use Rattle.plan_base.proofs.Common.{◌≡◌, ◌+◌, ◌≤◌, length, sum_by, AllByRecursion}
use Rattle.region_build.specs.{departures_by, inside.leaves_by}
use Rattle.region_build.proofs.headways.count_rows.Given as goal

abbrev pub decreases-loop-rest : goal.decreases-loop-rest
decreases-loop-rest l = length l.rest

abbrev pub invariant-loop-rest : goal.invariant-loop-rest
invariant-loop-rest l = record {
  last : AllByRecursion (λ row. 1 ≤ row.headway) l.rest;
  kept : l.counts.kept + sum_by (λ row. length (leaves_by l.before row)) l.rest ≡ sum_by (λ row. length (leaves_by l.before row)) l.rows;
  all : l.counts.all + sum_by (λ row. length (departures_by row)) l.rest ≡ sum_by (λ row. length (departures_by row)) l.rows;
}
