use Rattle.plan_base.proofs.Common.{◌≡◌, ℕ, ◌+◌, ◌<◌, ◌∙◌, nat_eq, Bool, true, false, get_or, refl, sym, ap, subst, arith, Contains, eqb-true, eqb-false, get_or_default}
use Rattle.phase_graph.proofs.MarkLemmas.{all_or, extends_contains}
use Rattle.phase_graph.proofs.marks.mark_targets.Goals as goal

pub loop-v-preserved : goal.loop-v-preserved
loop-v-preserved c =
    let targets = c.args.targets.now in
    let n = c.loop-v.v-index in
    let v = get_or targets n 0 in
    let at = λ (d : ℕ). get_or_default targets n d 0 c.loop-v-test.true in
    let done = c.in_ok-mark.ensures in
    let old = c.loop-v.queue.items in
    let new = c.mark.new.queue.items in
    record {
      marks = done.marks;
      only = all_or (Contains targets) old new v c.loop-v.invariant.only done.only (n, c.loop-v-test.true, at v);
      so_far = λ j d lt. by_place j d lt (nat_eq j n) refl;
    }
  where
    by_place : (j d : ℕ) → j < c.loop-v.v-index + 1 → (b : Bool) → nat_eq j c.loop-v.v-index ≡ b → get_or c.args.targets.now j d < c.args.nodes
        → Contains c.mark.new.queue.items (get_or c.args.targets.now j d)
    by_place j d lt false apart low =
        extends_contains c.loop-v.queue.items c.mark.new.queue.items c.in_ok-mark.ensures.kept (get_or c.args.targets.now j d)
        (c.loop-v.invariant.so_far j d (omega (arith, eqb-false j c.loop-v.v-index apart)) low)
    by_place j d lt true same low =
        let at : get_or c.args.targets.now j d ≡ get_or c.args.targets.now c.loop-v.v-index 0 = ap (λ i. get_or c.args.targets.now i d) (eqb-true j c.loop-v.v-index same) ∙ get_or_default c.args.targets.now c.loop-v.v-index d 0 c.loop-v-test.true in
        subst (Contains c.mark.new.queue.items) (sym at) (c.in_ok-mark.ensures.here (omega (arith, at, low)))
