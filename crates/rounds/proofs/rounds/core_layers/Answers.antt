use Rattle.plan_base.proofs.Common.{◌+◌, sym, subst}
use Rattle.rounds.proofs.LayerLemmas.{AreLayersBelow, layer_more}
use Rattle.rounds.proofs.rounds.core_layers.Goals as goal

pub loop-letter-preserved : goal.loop-letter-preserved
loop-letter-preserved c =
    let n = c.args.cores.network.now in
    let h = c.args.cores.hierarchy.now in
    let crossings = c.args.crossings.now in
    let letter = c.loop-letter.letter in
    let made = c.in_ok-layer.ensures in
    record {
      below = subst (AreLayersBelow n h crossings (letter + 1)) (sym c.in_ok-push.ensures.items)
          (layer_more n h crossings letter c.loop-letter.layers.items c.in-Some.layer c.loop-letter.invariant.below (rw c.in-Some.is at made.layer) (rw c.in-Some.is at made.gates));
    }
