use Rattle.plan_base.proofs.Common.{◌+◌, List, take, sym, ap, subst}
use Rattle.witness.specs.{Edge}
use Rattle.contractor.specs.{declared.way.Way.Way, inside.AreWaysWith}
use Rattle.contractor.proofs.{WayLemmas.ways_begin, WayLemmas.way_more, WayLemmas.way_back, ways.push_ways.Goals.then-side-edge+in_ok-push_way, ways.push_ways.Goals.else-side-edge}
use Rattle.contractor.proofs.ways.push_ways.Goals as goal

pub second-init : goal.second-init
second-init c = ways_begin c.args.row.now c.args.side c.args.ways.now.items

pub second-preserved : goal.second-preserved
second-preserved c =
    let i = c.second.edge-index in
    let old = c.second.ways.items in
    let d : Edge = record { to = 0; entry = 0; weight = 0 } in
    let with_ = λ (ws : List Way). AreWaysWith c.args.row.now c.args.side (take (i + 1) c.args.second.now) c.args.ways.now.items ws in
    elim c.if-side-edge.branch [
      | then-side-edge+in_ok-push_way w ↦ subst with_ (sym (ap (λ v. v.items) w.ways-is))
          (way_more c.args.row.now c.args.side c.args.second.now c.args.ways.now.items old w.push_way.new.ways.items i d c.second-test.true c.second.invariant (λ same. w.if-side-edge.true (sym same)) w.in_ok-push_way.ensures)
      | else-side-edge w ↦ subst with_ (sym (ap (λ v. v.items) w.ways-is))
          (way_back c.args.row.now c.args.side c.args.second.now c.args.ways.now.items old old i d c.second-test.true c.second.invariant (sym w.if-side-edge.false))
    ]
