use Rattle.plan_base.proofs.Common.{Bor, option_map}
use Rattle.hierarchy.specs.declared.hierarchy.Hierarchy.{Hierarchy}
use Rattle.planning.proofs.LimitLemmas.{within_labels}
use Rattle.planning.proofs.blocks.block_within.Goals as goal

pub returns-in_ok-block-in-Ended-clause-block : goal.returns-in_ok-block-in-Ended-clause-block
returns-in_ok-block-in-Ended-clause-block c =
    let h = option_map (λ (x : Bor Hierarchy). x.now) c.args.hierarchy in
    let few = rw c.in-Ended.is at c.in_ok-body.ensures.few in
    let right = rw c.in-Ended.is at c.in_ok-body.ensures.right in
    let boarded = rw c.in-Ended.is at c.in_ok-body.ensures.boarded in
    within_labels c.args.network.now h c.args.limit c.args.line.now _ _ few
    (record { body = c.in-Ended.body; right = right; boarded = boarded; tells = c.in_ok-block-in-Ended.ensures })

pub returns-in_ok-block-in-Ended-clause-settled : goal.returns-in_ok-block-in-Ended-clause-settled
returns-in_ok-block-in-Ended-clause-settled c =
    let h = option_map (λ (x : Bor Hierarchy). x.now) c.args.hierarchy in
    let few = rw c.in-Ended.is at c.in_ok-body.ensures.few in
    let settled = rw c.in-Ended.is at c.in_ok-body.ensures.settled in
    within_labels c.args.network.now h c.args.limit c.args.line.now _ _ few settled
