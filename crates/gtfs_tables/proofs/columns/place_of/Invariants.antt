use Rattle.plan_base.proofs.Common.{◌≡◌, ℕ, ◌<◌, [], false, get_or, bytes_eq}
use Rattle.csv.specs.Records.{fields_of}
use Rattle.gtfs_tables.proofs.columns.place_of.Given as goal

abbrev pub invariant-loop-place : goal.invariant-loop-place
invariant-loop-place l = (k : ℕ) → k < l.place → bytes_eq l.name (get_or (fields_of l.header) k []) ≡ false
