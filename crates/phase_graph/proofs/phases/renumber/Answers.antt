use Rattle.plan_base.proofs.Common.{◌≡◌, ◌∙◌, ◌+◌, ◌-◌, ◌<◌, length, drop, get_or, sym, ap, subst, arith, get_or-drop, length-drop, length-set}
use Rattle.phase_graph.specs.{renumbered, FitsAnew}
use Rattle.phase_graph.proofs.WayTies.{change_next, change_more}
use Rattle.phase_graph.proofs.phases.renumber.Goals as goal

pub renumbered-requires-clause-fits : goal.renumbered-requires-clause-fits
renumbered-requires-clause-fits c =
    let old = c.args.ways.now.items in
    let k = c.loop-k.k in
    let w = c.index.result.now in
    let inv = c.loop-k.invariant in
    let lt : k < length old = omega (arith, c.loop-k-test.true, c.len-k-end.ensures) in
    let back : c.args.from + (k - c.args.from) ≡ k = omega (arith, inv.from) in
    let is : w ≡ get_or (drop c.args.from old) (k - c.args.from) w =
    c.index.ensures ∙ change_next (renumbered c.args.old c.args.first) old c.args.from k c.loop-k.ways.items w inv.from lt inv.far
    ∙ sym (get_or-drop c.args.from old (k - c.args.from) w ∙ ap (λ i. get_or old i w) back) in
    subst (FitsAnew c.args.old) (sym is) (c.requires.fits (k - c.args.from) w (omega (arith, lt, inv.from, length-drop c.args.from old)))

pub loop-k-preserved : goal.loop-k-preserved
loop-k-preserved c =
    let old = c.args.ways.now.items in
    let inv = c.loop-k.invariant in
    let lt : c.loop-k.k < length old = omega (arith, c.loop-k-test.true, c.len-k-end.ensures) in
    record {
      far = rw c.renumbered.ensures (change_more (renumbered c.args.old c.args.first) old c.args.from c.loop-k.k c.loop-k.ways.items c.index.result.now inv.from lt c.index.ensures inv.far);
      from = omega (arith, inv.from);
      within = omega (arith, lt);
      same_length = length-set c.loop-k.ways.items c.loop-k.k c.renumbered.result ∙ inv.same_length;
    }
