use Rattle.plan_base.proofs.Common.{below_more, List, None, subst, All, HoldsAt}
use Rattle.hierarchy.specs.{FailsFirst, Entry, IsMade}
use Rattle.hierarchy_check.proofs.PlaceLemmas.{fails_first, holds_at, all_hold}
use Rattle.hierarchy_check.proofs.entries.first_unmade.Goals as goal

abbrev nothing : Entry
nothing = record { from = 0; to = 0; weight = 0; via = None }

pub returns-then-not-is_made : goal.returns-then-not-is_made
returns-then-not-is_made c =
    subst (λ (entries : List Entry). FailsFirst (IsMade c.args.network.now c.args.h.now) entries c.loop-at.at) c.entries-entries.ensures (fails_first (IsMade c.args.network.now c.args.h.now) c.entries-entries.result.now c.loop-at.at nothing c.is_made.result c.loop-at-test.true c.is_made.ensures c.if-not-is_made.true c.loop-at.invariant)

pub loop-at-preserved : goal.loop-at-preserved
loop-at-preserved c =
    below_more (HoldsAt (IsMade c.args.network.now c.args.h.now) c.entries-entries.result.now) c.loop-at.at c.loop-at.invariant
    (holds_at (IsMade c.args.network.now c.args.h.now) c.entries-entries.result.now c.loop-at.at nothing c.is_made.result c.loop-at-test.true c.is_made.ensures c.if-not-is_made.false)

pub returns : goal.returns
returns c = subst (λ (entries : List Entry). All (IsMade c.args.network.now c.args.h.now) entries) c.entries-entries.ensures (all_hold (IsMade c.args.network.now c.args.h.now) c.entries-entries.result.now c.loop-at.at c.loop-at-test.false c.loop-at.invariant)
