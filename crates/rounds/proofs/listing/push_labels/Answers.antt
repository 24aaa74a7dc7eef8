use Rattle.plan_base.proofs.Common.{◌≡◌, ◌+◌, ◌*◌, Vec, Global, length, slice_index, sym, subst, ap, arith}
use Rattle.product_search.specs.{Label}
use Rattle.rounds.specs.inside.{AddsLabels, IsRowLabel}
use Rattle.rounds.proofs.ListLemmas.{adds_none, row_passes, row_more}
use Rattle.rounds.proofs.listing.push_labels.Goals.{then-delay+in_ok-push, else-delay}
use Rattle.rounds.proofs.listing.push_labels.Goals as goal

pub loop-place-init : goal.loop-place-init
loop-place-init c = adds_none (IsRowLabel c.args.nodes.now c.args.delays.now c.args.state c.args.dep 0) c.args.labels.now.items (λ x r. omega (arith, r.within))

pub loop-place-preserved : goal.loop-place-preserved
loop-place-preserved c =
    let nodes = c.args.nodes.now in
    let delays = c.args.delays.now in
    let k = c.loop-place.place in
    let before = c.args.labels.now.items in
    let now = c.loop-place.labels.items in
    let Next : Label → Type 0 = IsRowLabel nodes delays c.args.state c.args.dep (k + 1) in
    elim c.if-delay.branch [
      | then-delay+in_ok-push w ↦ subst (λ (v : Vec Label Global). AddsLabels Next before v.items) (sym w.labels-is) (subst (AddsLabels Next before) (sym w.in_ok-push.ensures.items)
          (row_more nodes delays c.args.state c.args.dep k before now c.loop-place.invariant (record { node = 2 * slice_index nodes k; state = c.args.state; at = c.args.dep + w.from.result })
          (omega (arith, c.type_inv.delays k, w.if-delay.true)) (ap (λ t. record { node = 2 * slice_index nodes k; state = c.args.state; at = c.args.dep + t }) w.from.ensures)))
      | else-delay w ↦ subst (λ (v : Vec Label Global). AddsLabels Next before v.items) (sym w.labels-is) (row_passes nodes delays c.args.state c.args.dep k before now c.loop-place.invariant w.if-delay.false)
    ]

pub returns : goal.returns
returns c =
    let many : c.loop-place.place ≡ length c.args.delays.now = omega (arith, c.loop-place-test.false, c.loop-place.auto.place-end) in
    subst (λ n. AddsLabels (IsRowLabel c.args.nodes.now c.args.delays.now c.args.state c.args.dep n) c.args.labels.now.items c.loop-place.labels.items) many c.loop-place.invariant
