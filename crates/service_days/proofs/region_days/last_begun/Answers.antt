use Rattle.plan_base.proofs.Common.{rules, leb, IsPartitionedBy-leb, IsPartitionPoint-from_clause}
use Rattle.std.proofs.lemmas.List.Sorted.{IsNonDecreasingBy-from_default}
use Rattle.service_days.proofs.RisingLists.{is_after_last, non_decreasing, IsAfterLast}
use Rattle.service_days.proofs.region_days.last_begun.Goals as goal

point : (c : goal.After-partition_point-after) → IsAfterLast c.args.bases.now c.args.t c.partition_point-after.result
point c =
    let rising = IsNonDecreasingBy-from_default (λ base. base) c.args.bases.now 0 (non_decreasing c.args.bases.now c.requires.rise) in
    let parted = IsPartitionedBy-leb (λ base. base) c.args.bases.now c.args.t rising in
    is_after_last c.args.bases.now c.args.t c.partition_point-after.result c.requires.some c.requires.start c.partition_point-after.ensures.bound
    (IsPartitionPoint-from_clause (λ base. leb base c.args.t) _ _ c.partition_point-after.ensures.partitioned parted (λ a r q k. search rules))

pub overflow_sub-result : goal.overflow_sub-result
overflow_sub-result c = (point c).some

pub returns-clause-day : goal.returns-clause-day
returns-clause-day c = (point c).day

pub returns-clause-begun : goal.returns-clause-begun
returns-clause-begun c = (point c).begun
