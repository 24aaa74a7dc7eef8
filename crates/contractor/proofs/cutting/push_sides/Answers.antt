use Rattle.plan_base.proofs.Common.{◌+◌, ◌∙◌, List, take, sym, ap, subst}
use Rattle.witness.specs.{Edge}
use Rattle.contractor.specs.{declared.way.Side.Side, inside.AreSidesOf}
use Rattle.contractor.proofs.{CutLemmas.sides_begin, CutLemmas.side_more, CutLemmas.side_passed, cutting.push_sides.Goals.then-edge-x+in_ok-push, cutting.push_sides.Goals.else-edge-x}
use Rattle.contractor.proofs.cutting.push_sides.Goals as goal

pub edges-init : goal.edges-init
edges-init c = sides_begin c.args.u c.args.x c.args.sides.now.items

pub edges-preserved : goal.edges-preserved
edges-preserved c =
    let i = c.edges.edge-index in
    let inv = c.edges.invariant in
    let d : Edge = record { to = 0; entry = 0; weight = 0 } in
    elim c.if-edge-x.branch [
      | then-edge-x+in_ok-push w ↦ side_more c.args.u c.args.x c.args.row.now c.args.sides.now.items c.edges.sides.items c.if-edge-x.sides.items i d c.edges-test.true w.if-edge-x.true (ap (λ v. v.items) w.sides-is ∙ w.in_ok-push.ensures.items) inv
      | else-edge-x w ↦ subst (λ (ss : List Side). AreSidesOf c.args.u c.args.x (take (i + 1) c.args.row.now) c.args.sides.now.items ss) (sym (ap (λ v. v.items) w.sides-is))
          (side_passed c.args.u c.args.x c.args.row.now c.args.sides.now.items c.edges.sides.items i d c.edges-test.true w.if-edge-x.false inv)
    ]
