use Rattle.plan_base.proofs.Common.{◌≡◌, ◌<◌, ◌-◌, ◌∙◌, rules, ap, arith, length, length-append, inl, inr, cases_eq, All-weaker}
use Rattle.mode_network.specs.{count_below}
use Rattle.hierarchy.specs.{Entry, NodeRow, AreEndsBelow, node_row, from_of, places_before, is_rise, rise_from, rises_in}
use Rattle.mode_network.proofs.KeyLemmas.{count_all, count_most, count_rises, rows_more}
use Rattle.hierarchy.proofs.{PlaceLemmas.places_few, RiseLemmas.rises_below}
use Rattle.hierarchy.proofs.rises.rows.Goals as goal

pub push_rises_below-requires-clause-place : goal.push_rises_below-requires-clause-place
push_rises_below-requires-clause-place c = elim (cases_eq c.loop-v.v 0) [
  | inl start ↦ (let first = c.loop-v.invariant.starts start in omega arith)
  | inr later ↦ (
      let last = c.loop-v.invariant.goes_on (c.loop-v.v - 1) (omega (arith, later)) in
      omega (arith, last, count_rises from_of c.args.entries.now (c.loop-v.v - 1) c.loop-v.v (omega arith))
      )
]

pub overflow_cast-len : goal.overflow_cast-len
overflow_cast-len c =
    let entries = c.args.entries.now in
    let long : c.len.result ≡ length c.push_rises_below.new.rises.items = search rules in
    omega (arith, long, ap length c.in_ok-place.ensures.rises, places_few (is_rise c.args.heights.now.order.now) entries c.in_ok-place.place, c.in_ok-place.ensures.place, count_most from_of entries c.loop-v.v)

pub loop-v-preserved : goal.loop-v-preserved
loop-v-preserved c =
    let order = c.args.heights.now.order.now in
    let entries = c.args.entries.now in
    let v = c.loop-v.v in
    let place : c.in_ok-place.place ≡ count_below from_of entries v = c.in_ok-place.ensures.place in
    let rises = c.in_ok-place.ensures.rises in
    let long : c.len.result ≡ length c.push_rises_below.new.rises.items = search rules in
    let count : c.len.result ≡ count_below rise_from (rises_in order entries) v =
    long ∙ ap length rises ∙ ap (λ n. length (places_before (is_rise order) entries n)) place ∙ rises_below order entries c.requires.rising v in
    let row : NodeRow = record { entries = c.in_ok-place.place; rises = c.len.result } in
    let is : row ≡ node_row order entries v = ap (λ n. record { entries = n; rises = c.len.result }) place ∙ ap (λ n. record { entries = count_below from_of entries v; rises = n }) count in
    let pushed = c.in_ok-push.ensures.items in
    record {
      starts = λ none. absurd (omega arith);
      goes_on = λ w same. (let here : v ≡ w = omega arith in place ∙ ap (count_below from_of entries) here);
      rises = rises;
      so_far = rw pushed (omega (arith, length-append {A = NodeRow}, c.loop-v.invariant.so_far));
      rows = rw pushed (rows_more (node_row order entries) c.loop-v.rows.items v row c.loop-v.invariant.so_far c.loop-v.invariant.rows is);
    }

pub returns-clause-rises : goal.returns-clause-rises
returns-clause-rises c =
    let entries = c.args.entries.now in
    let nodes = c.args.heights.now.nodes in
    let last = c.loop-v.invariant.goes_on nodes (omega (arith, c.loop-v-test.false, c.loop-v.auto.v-end)) in
    let all = count_all from_of entries nodes (All-weaker (AreEndsBelow nodes) (λ (e : Entry). e.from < nodes) (λ e ends. ends.0) entries c.requires.ends) in
    c.loop-v.invariant.rises ∙ ap (places_before (is_rise c.args.heights.now.order.now) entries) (last ∙ all)
