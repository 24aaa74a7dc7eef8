use Rattle.plan_base.proofs.Common.{◌∙◌, ◌≡◌, ◌≤◌, length, ap, arith, is_some, not, sym, take_all}
use Rattle.mode_network.proofs.RuleLemmas.{nodes_hold_roads}
use Rattle.cores.proofs.CoreLemmas.{past_roads, road_more}
use Rattle.cores.proofs.building.road_nodes.Goals.{else-loop-v-test, then-loop-v-test+then-is_none}
use Rattle.cores.proofs.building.road_nodes.Goals as goal

pub loop-v-preserved : goal.loop-v-preserved
loop-v-preserved c =
    let n = c.args.network.now in
    let road = ap is_some (sym c.mode.ensures) ∙ c.is_none.ensures ∙ ap not c.if-is_none.false in
    let more = road_more n c.requires c.loop-v.v c.node.result c.loop-v.roads.items c.loop-v.invariant.so_far road c.node.ensures in
    record { so_far = c.in_ok-push.ensures.items ∙ more.0; within = omega (arith, more.1) }

pub returns : goal.returns
returns c =
    let n = c.args.network.now in
    let all : length n.roads ≤ c.loop-v.v → c.loop-v.roads.items ≡ n.roads = λ past. c.loop-v.invariant.so_far ∙ take_all c.loop-v.v n.roads past in
    elim c.loop-v-test.branch [
      | else-loop-v-test w ↦ all (omega (arith, w.loop-v-test.false, c.nodes-v-end.ensures, nodes_hold_roads n c.requires))
      | then-loop-v-test+then-is_none w ↦ all (past_roads n c.requires c.loop-v.v (ap is_some (sym w.mode.ensures) ∙ w.is_none.ensures ∙ ap not w.if-is_none.true))
    ]
