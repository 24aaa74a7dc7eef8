use Rattle.plan_base.proofs.Common.{◌≡◌, ◌+◌, ◌++◌, ◌∙◌, ℕ, List, ap, arith, length, sym, subst, true, false, OnOk, on_ok_weaker}
use Rattle.search_laws.specs.{AddsMoving, moving_letters, ways_from, ways_past, Way}
use Rattle.mode_network.specs.{letter_at}
use Rattle.hierarchy.specs.{has_legs}
use Rattle.phase_graph.specs.{marks_in, entries_at, is_down, legs_at, node_of, phase_meaning, phase_rides, rises_at}
use Rattle.phase_graph.proofs.{LegLemmas.legs_none, LegLemmas.legs_whole, WayTies.all_along, WayTies.moving_joined, phases.PhasesGraph.fresh_ways.Goals.then-not-has_legs+in_ok-push_rises, phases.PhasesGraph.fresh_ways.Goals.else-not-has_legs}
use Rattle.phase_graph.proofs.phases.PhasesGraph.fresh_ways.Goals as goal

pub returns : goal.returns
returns c =
    let self = c.args.self.now in
    let n = self.plain.network.now in
    let t = self.plain.timetable.now in
    let h = self.hierarchy.now in
    let marks = marks_in self.falls.first.items in
    let visit = c.args.visit in
    let p = visit.node in
    let g = phase_meaning n t h marks in
    let v = node_of p in
    let down = is_down p in
    let ups = length (rises_at h v down) in
    let downs = entries_at h v in
    let before = c.args.ways.now.items in
    let falls = c.in_ok-push_falls.ensures in
    let asked : c.moving_letters-letters.result ≡ moving_letters visit.letters visit.leaving (letter_at n.roads v) = cc in
    let joined = λ (start count : ℕ) (is : start ≡ length (legs_at h v down)) (whole : start + count ≡ ups + downs) (along : c.push_falls.new.ways.items ≡ before ++ ways_from g p visit.at visit.letters start count).
    subst (λ (k : ℕ). OnOk c.push_fresh_others.result (AddsMoving (phase_rides n t) visit c.args.given.now c.push_fresh_others.new.given (ways_past g p visit.at visit.letters k) before c.push_fresh_others.new.ways.items)) is
    (on_ok_weaker c.push_fresh_others.result
    (moving_joined n h t marks p visit.at visit.letters c.moving_letters-letters.result visit.leaving visit.state start count c.args.given.now c.push_fresh_others.new.given before c.push_falls.new.ways.items
    c.push_fresh_others.new.ways.items asked whole along)
    c.push_fresh_others.ensures) in
    elim c.if-not-has_legs.branch [
      | then-not-has_legs+in_ok-push_rises w ↦ (
          let none : has_legs h ≡ false = sym c.has_legs.ensures ∙ w.if-not-has_legs.true in
          let rises = ap (λ ways. ways.items) w.ways-is ∙ w.in_ok-push_rises.ensures in
          joined 0 (ups + downs) (sym (legs_none h v down none)) (omega arith) (all_along n h t marks p visit.at visit.letters before c.if-not-has_legs.ways.items c.push_falls.new.ways.items rises falls)
          )
      | else-not-has_legs w ↦ (
          let has : has_legs h ≡ true = sym c.has_legs.ensures ∙ w.if-not-has_legs.false in
          let same = ap (λ ways. ways.items) w.ways-is in
          joined ups downs (sym (legs_whole h v down has)) (omega arith) (falls ∙ ap (λ (ws : List Way). ws ++ ways_from g p visit.at visit.letters ups downs) same)
          )
    ]
