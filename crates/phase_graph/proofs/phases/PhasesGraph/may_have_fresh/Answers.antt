use Rattle.plan_base.proofs.Common.{◌≡◌, ◌+◌, ◌∙◌, sym, ap, subst, [], not-false, slice_index_or}
use Rattle.search_laws.specs.{AddsMoving, visit_by, moving_letters, ways_from, ways_past}
use Rattle.mode_network.specs.{letter_at}
use Rattle.plain_graph.specs.{plain_meaning, count_from, inner_arcs_at}
use Rattle.phase_graph.specs.{marks_in, is_down, node_of, phase_meaning, phase_rides}
use Rattle.phase_graph.proofs.{FallLemmas.chain_ended, LegLemmas.legs_whole, WayTies.none_left}
use Rattle.phase_graph.proofs.phases.PhasesGraph.may_have_fresh.Goals as goal

pub returns : goal.returns
returns c none time q given =
    let self = c.args.self.now in
    let n = self.plain.network.now in
    let t = self.plain.timetable.now in
    let h = self.hierarchy.now in
    let marks = marks_in self.falls.first.items in
    let p = c.args.p in
    let v = node_of p in
    let letters = c.args.letters in
    let leaving = c.args.leaving in
    let m = count_from n.links v + inner_arcs_at n t v in
    let (first, has, low) = rw c.split-v.ensures at (c.has_legs_alone.ensures c.if-not-has_legs_alone.false) in
    let asked : c.moving_letters-letters.result ≡ moving_letters letters leaving (letter_at n.roads v) =
    c.moving_letters-letters.ensures ∙ ap (moving_letters letters leaving) (rw (c.network.ensures, c.split-v.ensures) at c.letter.ensures) in
    let left : ways_from (plain_meaning n t) v time (moving_letters letters leaving (letter_at n.roads v)) (count_from n.arcs v) m ≡ [] =
    ap (λ x. ways_from (plain_meaning n t) v time x (count_from n.arcs v) m) (sym asked)
    ∙ (rw c.split-v.ensures at (c.has_none_past_roads.ensures (not-false c.has_none_past_roads.result none) time)) in
    subst (λ k. AddsMoving (phase_rides n t) (visit_by p time q letters leaving) given given (ways_past (phase_meaning n t h marks) p time letters k) [] []) (sym (legs_whole h v (is_down p) has))
    (none_left n h t marks p time letters leaving q given first (chain_ended self.falls.all.items (slice_index_or self.falls.first.items v 0) _ (self.chained v) low) left)
