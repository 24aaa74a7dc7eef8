use Rattle.product_search.proofs.FrontierLemmas.{drops_stale, takes_scan, takes_none}
use Rattle.product_search.proofs.frontier.Frontier.take.Goals as goal

pub returns-in-Some-scan_of-clause-some : goal.returns-in-Some-scan_of-clause-some
returns-in-Some-scan_of-clause-some c =
    let gives = rw c.in-Some.is at c.in_ok-item.ensures.some in
    takes_scan c.args.self.now c.loop-item.self c.next_item.new.self c.loop-item.invariant c.in-Some.item gives c.in-Some-scan_of.scan c.in-Some-scan_of.ensures.some

pub loop-item-preserved : goal.loop-item-preserved
loop-item-preserved c =
    let gives = rw c.in-Some.is at c.in_ok-item.ensures.some in
    drops_stale c.args.self.now c.loop-item.self c.next_item.new.self c.loop-item.invariant c.in-Some.item gives c.in_default-scan_of.ensures.none

pub returns-clause-none : goal.returns-clause-none
returns-clause-none c =
    takes_none c.args.self.now c.loop-item.self c.next_item.new.self c.loop-item.invariant (rw c.in_default.is at c.in_ok-item.ensures.none)
