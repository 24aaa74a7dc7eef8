use Rattle.plan_base.proofs.Common.{subst₂, sym}
use Rattle.sweeps.specs.inside.{AreDowns, AreDownsAt}
use Rattle.sweeps.proofs.RowLemmas.{rows_more}
use Rattle.sweeps.proofs.places.Places.all_downs.Goals as goal

pub loop-i-preserved : goal.loop-i-preserved
loop-i-preserved c =
    let nodes = c.args.self.now.nodes.now in
    let i = c.loop-i.i in
    rows_more (AreDownsAt c.args.h.now nodes) i c.loop-i.rows c.in_ok-rows-2.rows c.deref.result.now c.loop-i.invariant c.in_ok-rows-2.ensures
    (subst₂ (AreDowns nodes i) c.falls_into.ensures (sym c.deref.ensures.value) (c.in_ok-downs.ensures.some c.if-not-branch.false))
