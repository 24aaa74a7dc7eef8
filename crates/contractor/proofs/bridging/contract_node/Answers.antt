use Rattle.plan_base.proofs.Common.{refl}
use Rattle.contractor.specs.declared.layer.Layer.{Layer}
use Rattle.contractor.proofs.BridgeLemmas.{sides_inside, sides_light, edges_light, ways_now, bridging_now, contracted}
use Rattle.contractor.proofs.bridging.contract_node.Goals as goal

pub ways_by-requires-clause-nodes : goal.ways_by-requires-clause-nodes
ways_by-requires-clause-nodes c =
    let e = c.in_ok-sides.ensures in
    sides_inside c.args.network.now c.args.layer.now c.cut.new.layer c.args.x c.requires.state e.order e.entries e.witnesses e.layer c.in_ok-sides.sides.first.items e.first

pub ways_by-requires-clause-first : goal.ways_by-requires-clause-first
ways_by-requires-clause-first c =
    let e = c.in_ok-sides.ensures in
    sides_light c.args.network.now c.args.layer.now c.cut.new.layer c.args.x c.requires.state e.order e.entries e.witnesses e.layer c.in_ok-sides.sides.first.items e.first

pub ways_by-requires-clause-second : goal.ways_by-requires-clause-second
ways_by-requires-clause-second c =
    let e = c.in_ok-sides.ensures in
    edges_light c.args.network.now c.args.layer.now c.cut.new.layer c.args.x c.requires.state e.order e.entries e.witnesses e.layer c.in_ok-sides.sides.second.items e.second

pub bridge-requires : goal.bridge-requires
bridge-requires c =
    let e = c.in_ok-sides.ensures in
    let s = c.in_ok-sides.sides in
    let ways = c.in_ok-ways.ways.items in
    bridging_now c.args.network.now c.args.layer.now c.cut.new.layer c.args.x c.requires.state e.order e.entries e.witnesses e.layer ways c.requires.core
    (ways_now c.args.network.now c.args.layer.now c.cut.new.layer c.args.x c.requires.state e.order e.entries e.witnesses e.layer s.first.items s.second.items ways e.first e.second c.in_ok-ways.ensures)

pub returns-clause-state : goal.returns-clause-state
returns-clause-state c =
    let now = c.bridge.new.layer in
    let new : Layer = record { order = c.push.new.self; entries = now.entries; witnesses = now.witnesses; rows = now.rows; into = now.into } in
    contracted c.args.network.now c.args.x c.in_ok-ways.ways.items now new c.requires.free c.in_ok-bridge.ensures.state c.in_ok-push.ensures.items refl refl refl refl
