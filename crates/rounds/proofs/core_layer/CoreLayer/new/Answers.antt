use Rattle.rounds.proofs.LayerLemmas.{core_layer}
use Rattle.rounds.proofs.core_layer.CoreLayer.new.Goals as goal

pub returns-clause-layer : goal.returns-clause-layer
returns-clause-layer c =
    let cores = c.args.cores in
    let s = c.in-Some.sheet in
    core_layer cores.network.now cores.hierarchy.now cores.core.now c.args.letter s c.in_ok-nodes.nodes.items c.requires.core c.known-2.ensures
    c.in_ok-nodes.ensures (rw c.in-Some.is at c.in_ok-sheet.ensures.some) (c.is_apart.ensures c.if-not-is_apart.false) (c.has_all.ensures c.if-not-has_all.false)
