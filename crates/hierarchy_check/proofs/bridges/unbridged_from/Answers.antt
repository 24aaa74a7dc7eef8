use Rattle.plan_base.proofs.Common.{below_more, List, None, subst, arith, HoldsAt}
use Rattle.search_laws.specs.{HoldsBelow}
use Rattle.hierarchy.specs.{FailsFirst, Entry, PairIsBridged}
use Rattle.hierarchy_check.proofs.{PlaceLemmas.fails_first, PlaceLemmas.holds_at, BridgeLemmas.before_range, BridgeLemmas.whole_range}
use Rattle.hierarchy_check.proofs.bridges.unbridged_from.Goals as goal

abbrev nothing : Entry
nothing = record { from = 0; to = 0; weight = 0; via = None }

pub returns-then-not-pair_is_bridged : goal.returns-then-not-pair_is_bridged
returns-then-not-pair_is_bridged c =
    subst (λ (entries : List Entry). FailsFirst (PairIsBridged c.args.h.now c.args.x c.args.entry) entries c.loop-by.by) c.entries-entries.ensures (fails_first (PairIsBridged c.args.h.now c.args.x c.args.entry) c.entries-entries.result.now c.loop-by.by nothing c.pair_is_bridged.result (let are = c.entries_from-first.ensures.are in rw c.entries-entries.ensures (omega (arith, c.loop-by-test.true, are.within))) c.pair_is_bridged.ensures c.if-not-pair_is_bridged.true c.loop-by.invariant)

pub loop-by-init : goal.loop-by-init
loop-by-init c = rw c.entries-entries.ensures (before_range c.args.h.now c.args.x c.args.entry c.entries_from-first.result.0 c.entries_from-first.result.1 c.entries_from-first.ensures.are)

pub loop-by-preserved : goal.loop-by-preserved
loop-by-preserved c =
    below_more (HoldsAt (PairIsBridged c.args.h.now c.args.x c.args.entry) c.entries-entries.result.now) c.loop-by.by c.loop-by.invariant
    (holds_at (PairIsBridged c.args.h.now c.args.x c.args.entry) c.entries-entries.result.now c.loop-by.by nothing c.pair_is_bridged.result (let are = c.entries_from-first.ensures.are in rw c.entries-entries.ensures (omega (arith, c.loop-by-test.true, are.within))) c.pair_is_bridged.ensures c.if-not-pair_is_bridged.false)

pub returns : goal.returns
returns c =
    whole_range c.args.h.now c.args.x c.args.entry c.entries_from-first.result.0 c.entries_from-first.result.1 c.entries_from-first.ensures.are c.loop-by.by c.loop-by-test.false (subst (λ (entries : List Entry). HoldsBelow c.loop-by.by (HoldsAt (PairIsBridged c.args.h.now c.args.x c.args.entry) entries)) c.entries-entries.ensures c.loop-by.invariant)
