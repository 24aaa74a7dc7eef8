use Rattle.plan_base.proofs.Common.{ℕ, ◌+◌, length, take, drop, slice_index, ◌∙◌, ap, subst, length-append, arith, take_all, length-map}
use Rattle.product_search.specs.{start_states, start_pairs, pairs_at, AllListed}
use Rattle.product_search.proofs.StartLemmas.{start_pairs_more, start_pairs_split, all_listed_both, fails_between}
use Rattle.product_search.proofs.start_check.first_unlisted_start.Goals as goal

pub returns-in-Err : goal.returns-in-Err
returns-in-Err g c =
    let labels = g.L.Labels.automaton c.args.labels.now in
    let starts = c.args.starts.now in
    let i = c.loop-node.node-index in
    let v = slice_index starts i in
    rw c.from.ensures
    (fails_between c.args.list.now c.args.dep (start_pairs labels (take i starts)) (pairs_at v (start_states labels labels.states)) (start_pairs labels (drop (i + 1) starts))
    (start_pairs labels starts) c.loop-node.count c.in-Err.place (start_pairs_split labels starts i c.loop-node-test.true) c.loop-node.invariant.counted c.loop-node.invariant.listed
    c.in-Err.ensures.unlisted)

pub loop-node-preserved : goal.loop-node-preserved
loop-node-preserved g c =
    let labels = g.L.Labels.automaton c.args.labels.now in
    let starts = c.args.starts.now in
    let i = c.loop-node.node-index in
    let states = start_states labels labels.states in
    let more = start_pairs_more labels starts i c.loop-node-test.true in
    let v = slice_index starts i in
    record {
      counted = (let n = ap length more ∙ length-append (start_pairs labels (take i starts)) (pairs_at v states) in
          let m = length-map {B = ℕ × ℕ} states (λ q. (v, q)) in
          omega (arith, n, m, c.loop-node.invariant.counted, c.in-Ok.ensures.listed.0, c.from-count.ensures));
      few = omega (arith, c.loop-node.invariant.few, c.in-Ok.ensures.few, c.from-count.ensures);
      listed = all_listed_both c.args.list.now c.args.dep (start_pairs labels (take i starts)) (pairs_at v states) (start_pairs labels (take (i + 1) starts)) more
          c.loop-node.invariant.listed c.in-Ok.ensures.listed.1;
    }

pub returns : goal.returns
returns g c =
    let labels = g.L.Labels.automaton c.args.labels.now in
    let starts = c.args.starts.now in
    subst (λ xs. AllListed c.args.list.now c.args.dep (start_pairs labels xs)) (take_all c.loop-node.node-index starts (omega arith)) c.loop-node.invariant.listed
