use Rattle.plan_base.proofs.Common.{ℕ, List, sym, subst, All}
use Rattle.product_search.specs.{Label}
use Rattle.descents.specs.{AreNodeArrivals}
use Rattle.rounds.specs.{AreReachedLabels}
use Rattle.descents.specs.inside.{AreDelays, AreTimesAfter, IsKnownLabel}
use Rattle.descents.proofs.NodeLemmas.{node_arrivals, labels_known}
use Rattle.descents.proofs.descents.Descents.arrivals.Goals as goal

pub delays_of-requires : goal.delays_of-requires
delays_of-requires g c =
    let d = c.args.self.now in
    let l = g.L.Labels.automaton c.args.machine.now.labels in
    let starts = c.requires.starts in
    let reach = c.in_ok-labels.ensures in
    let labels = c.in_ok-labels.labels.items in
    let are = subst (λ (ps : List ℕ). AreReachedLabels reach.graph l ps c.args.dep labels) starts.are reach.are in
    subst (λ (xs : List Label). All (IsKnownLabel d.network.now l) xs) (sym c.deref.ensures.value)
    (labels_known d.network.now d.hierarchy.now c.known.ensures c.known-2.ensures c.requires.is.sound l (g.met.L.Labels.lawful c.args.machine.now.labels) reach.graph reach.in_use starts.origins c.args.dep labels
    starts.within are)

pub returns : goal.returns
returns g c =
    let d = c.args.self.now in
    let l = g.L.Labels.automaton c.args.machine.now.labels in
    let slope = d.slope in
    let labels = c.in_ok-labels.labels.items in
    let delays = c.in-Some.delays in
    let after = c.in-Some-swept.after.items in
    let starts = c.requires.starts in
    let reach = c.in_ok-labels.ensures in
    let all = subst (λ (ps : List ℕ). AreReachedLabels reach.graph l ps c.args.dep labels) starts.are reach.are in
    let are : AreDelays d.network.now slope.nodes.items l c.args.dep labels delays =
    subst (λ (xs : List Label). AreDelays d.network.now slope.nodes.items l c.args.dep xs delays) c.deref.ensures.value (rw c.in-Some.is at c.in_ok-delays.ensures) in
    let times : AreTimesAfter slope.nodes.items delays.ends.items after c.args.dep c.args.ends.now c.in_ok-times.times.items =
    subst (λ (xs : List ℕ). AreTimesAfter slope.nodes.items delays.ends.items xs c.args.dep c.args.ends.now c.in_ok-times.times.items) c.deref-3.ensures.value
    (subst (λ (xs : List ℕ). AreTimesAfter slope.nodes.items xs c.deref-3.result.now c.args.dep c.args.ends.now c.in_ok-times.times.items) c.deref-2.ensures.value c.in_ok-times.ensures) in
    subst (λ (ps : List ℕ). AreNodeArrivals d.network.now d.hierarchy.now l ps c.args.dep c.args.ends.now c.in_ok-times.times.items) (sym starts.are)
    (node_arrivals d.network.now d.hierarchy.now c.known.ensures c.known-2.ensures c.requires.is.sound l (g.met.L.Labels.lawful c.args.machine.now.labels) (g.met.L.RoadLabels.road_law c.args.machine.now.labels)
    reach.graph reach.in_use slope c.requires.is.slope starts.origins c.args.dep labels all delays are after (rw c.in-Some-swept.is at c.swept.ensures) c.args.ends.now c.requires.ends c.in_ok-times.times.items times)
