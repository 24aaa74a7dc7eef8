use Rattle.plan_base.proofs.Common.{rules, of_calls, int_lt, int_le, always_returns_same}
use Rattle.mode_network.specs.{Node}
use Rattle.mode_network.proofs.CopyLemmas.{id_of, below_parted, within_parted, copies_found, copies_missing}
use Rattle.mode_network.proofs.network.road_copies.Goals as goal

pub returns-then-first-end : goal.returns-then-first-end
returns-then-first-end c =
    copies_found c.args.roads.now c.requires.ascend c.args.id c.requires.are _ _
    (c.partition_point-first.ensures.partitioned (λ (node : Node). int_lt (id_of node) c.args.id) (always_returns_same _ _ _ (λ a r f k. search (rules, of_calls))) (below_parted c.args.roads.now c.requires.ascend c.args.id))
    (c.partition_point-end.ensures.partitioned (λ (node : Node). int_le (id_of node) c.args.id) (always_returns_same _ _ _ (λ a r f k. search (rules, of_calls))) (within_parted c.args.roads.now c.requires.ascend c.args.id))
    c.partition_point-end.ensures.bound c.if-first-end.true

pub returns-else-first-end : goal.returns-else-first-end
returns-else-first-end c =
    copies_missing c.args.roads.now c.requires.ascend c.args.id c.requires.are _ _
    (c.partition_point-first.ensures.partitioned (λ (node : Node). int_lt (id_of node) c.args.id) (always_returns_same _ _ _ (λ a r f k. search (rules, of_calls))) (below_parted c.args.roads.now c.requires.ascend c.args.id))
    (c.partition_point-end.ensures.partitioned (λ (node : Node). int_le (id_of node) c.args.id) (always_returns_same _ _ _ (λ a r f k. search (rules, of_calls))) (within_parted c.args.roads.now c.requires.ascend c.args.id))
    c.partition_point-end.ensures.bound c.if-first-end.false
