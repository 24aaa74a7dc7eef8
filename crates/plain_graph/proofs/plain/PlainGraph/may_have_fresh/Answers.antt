use Rattle.plan_base.proofs.Common.{◌≡◌, ◌+◌, ◌-◌, [], refl, sym, ap, ◌∙◌, subst, arith, not-false}
use Rattle.search_laws.specs.{AreMoving, moving_letters, ways_from}
use Rattle.search_laws.proofs.FreshLemmas.{adds_all, moving_asked}
use Rattle.mode_network.specs.{letter_at}
use Rattle.plain_graph.specs.{plain_rides, plain_meaning, count_from, inner_arcs_at, arcs_at}
use Rattle.plain_graph.proofs.PlaceTies.{past_roads_stand}
use Rattle.plain_graph.proofs.plain.PlainGraph.may_have_fresh.Goals as goal

pub returns : goal.returns
returns c none time q given =
    let n = c.args.self.now.network.now in
    let t = c.args.self.now.timetable.now in
    let v = c.args.v in
    let g = plain_meaning n t in
    let roads = count_from n.arcs v in
    let m = count_from n.links v + inner_arcs_at n t v in
    let rest : arcs_at n t v - roads ≡ m = omega arith in
    let asked : c.moving_letters-letters.result ≡ moving_letters c.args.letters c.args.leaving (letter_at n.roads v) =
    c.moving_letters-letters.ensures ∙ ap (moving_letters c.args.letters c.args.leaving) c.letter.ensures in
    let left : ways_from g v time (moving_letters c.args.letters c.args.leaving (letter_at n.roads v)) roads m ≡ [] =
    ap (λ x. ways_from g v time x roads m) (sym asked) ∙ c.has_none_past_roads.ensures (not-false c.has_none_past_roads.result none) time in
    rw rest (
      [],
      subst (AreMoving v time c.args.leaving (ways_from g v time c.args.letters roads m)) left
          (moving_asked g v time c.args.letters c.args.leaving roads (letter_at n.roads v) (past_roads_stand n t v time c.args.leaving) roads m (omega arith)),
      adds_all (plain_rides n t) q given [] [] [] refl,
    )
