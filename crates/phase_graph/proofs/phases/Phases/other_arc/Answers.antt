use Rattle.plan_base.proofs.Common.{arith}
use Rattle.phase_graph.proofs.phases.Phases.other_arc.Goals as goal

pub number_of-requires : goal.number_of-requires
number_of-requires c =
    let plain = c.args.self.now.plain in
    let to = plain.lawful.to_in_range c.args.v c.args.place (record { node = c.requires.node; arc = c.requires.arc }) in
    let few = plain.kept.few_nodes in
    rw c.arc_at-arc.ensures (omega (arith, to, few))
