-- The length of an id.
use Rattle.plan_base.proofs.Common.{◌≡◌, ℕ, ◌<◌, ◌^◌, List, length, true, arith, nat_tests}
use Rattle.gtfs_tables.specs.{is_id}

pub id_is_some : (id : List ℕ) → is_id id ≡ true → 0 < length id
unfolding is_id
id_is_some id is = grind (arith, nat_tests, is)

pub id_is_short : (id : List ℕ) → is_id id ≡ true → length id < 2 ^ 30
unfolding is_id
id_is_short id is = grind (arith, nat_tests, is)
