use Rattle.witness.proofs.BackLemmas.{back_smaller, back_more}
use Rattle.witness.proofs.retrace.retrace.Goals as goal

pub back-smaller : goal.back-smaller
back-smaller c =
    back_smaller c.args.rows.now c.args.workspace.now.most c.args.limit c.args.workspace.now c.requires.rows c.requires.search c.args.v c.back.node c.back.nodes.items c.back.invariant c.back-test.true
    c.index.result.now c.index.ensures

pub back-preserved : goal.back-preserved
back-preserved c =
    back_more c.args.rows.now c.args.workspace.now.most c.args.limit c.args.workspace.now c.requires.rows c.requires.search c.args.v c.back.node c.back.nodes.items c.back.invariant c.back-test.true
    c.index.result.now c.index.ensures c.push-in-back.new.self.items c.in_ok-push-2.ensures.items
