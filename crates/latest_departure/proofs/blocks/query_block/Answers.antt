use Rattle.plan_base.proofs.Common.{IfOk-weaker}
use Rattle.journey.specs.{asked_by}
use Rattle.latest_departure.proofs.{LimitLemmas.late_within, LimitLemmas.late_stopped, TextLemmas.late_printable}
use Rattle.latest_departure.proofs.blocks.query_block.Goals as goal

pub returns-in-Stopped : goal.returns-in-Stopped
returns-in-Stopped c =
    let stopped = rw c.in-Stopped.is at c.in_ok-found.ensures.stopped in
    IfOk-weaker c.stopped_block.result _ _
    (λ block told. late_stopped c.args.backwards.now.network c.args.query.now.line (asked_by c.args.query.now) c.requires.asks c.args.limit c.in-Stopped.most stopped.0 stopped.1 block.items told)
    (rw c.as_slice-line.ensures at c.stopped_block.ensures)

pub answer_block-requires : goal.answer_block-requires
answer_block-requires c =
    let late = rw c.in-Ended.is at c.in_ok-found.ensures.journey in
    rw c.network.ensures (late_printable c.args.backwards.now.network (asked_by c.args.query.now) c.in-Ended.journey late)

pub returns : goal.returns
returns c =
    let late = rw c.in-Ended.is at c.in_ok-found.ensures.journey in
    let few = rw c.in-Ended.is at c.in_ok-found.ensures.few in
    IfOk-weaker c.answer_block.result _ _
    (λ block tells. late_within c.args.backwards.now.network c.args.query.now.line (asked_by c.args.query.now) c.requires.asks c.in-Ended.journey late c.args.limit few block.items tells)
    (rw (c.network.ensures, c.as_slice-line.ensures) at c.answer_block.ensures)
