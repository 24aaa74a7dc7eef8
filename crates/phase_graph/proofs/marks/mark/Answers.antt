use Rattle.plan_base.proofs.Common.{◌≡◌, ◌∙◌, get_or, arith, get_or_default}
use Rattle.phase_graph.proofs.MarkLemmas.{marked_more}
use Rattle.phase_graph.proofs.marks.mark.Goals as goal

pub returns-in_ok-push-clause-marks : goal.returns-in_ok-push-clause-marks
returns-in_ok-push-clause-marks c =
    let numbers = c.args.numbers.now.items in
    let unset : get_or numbers c.args.v 0 ≡ 0 =
    get_or_default numbers c.args.v 0 c.index.result.now (omega (arith, c.if-v-nodes.true, c.requires.marks.one_each)) ∙ omega (arith, c.index.ensures, c.if-index-eq0.true) in
    rw c.in_ok-push.ensures.items (marked_more c.args.nodes c.args.v numbers c.args.queue.now.items c.requires.marks c.if-v-nodes.true unset)
