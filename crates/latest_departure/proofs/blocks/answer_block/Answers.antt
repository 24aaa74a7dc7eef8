use Rattle.plan_base.proofs.Common.{◌∙◌, ap, IfOk-weaker}
use Rattle.journey.specs.{block_text}
use Rattle.journey.proofs.PrintLemmas.{framed_text}
use Rattle.latest_departure.specs.{IsResultText}
use Rattle.latest_departure.proofs.blocks.answer_block.Goals as goal

pub returns : goal.returns
returns c =
    IfOk-weaker c.framed.result _ _ (λ block is. framed_text (IsResultText c.args.network.now c.args.answer.now) c.args.line.now c.new-text.result.items c.push_answer.new.out.items block.items c.new-text.ensures.items
    c.in_ok-push_answer.ensures (is ∙ ap (block_text c.args.line.now) c.deref.ensures.value)) c.framed.ensures
