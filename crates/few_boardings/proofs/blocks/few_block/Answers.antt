use Rattle.plan_base.proofs.Common.{◌∙◌, inl, inr, ap, IfOk-weaker}
use Rattle.journey.specs.{block_text}
use Rattle.few_boardings.proofs.blocks.few_block.Goals as goal

pub returns-in-Err : goal.returns-in-Err
returns-in-Err c =
    let refusal = rw c.in-Err.is at c.read_query.ensures.fault in
    IfOk-weaker c.refused_block.result _ _ (λ block told. inl (record {
      fault = c.in-Err.fault;
      refused = elim refusal [
        | inl none ↦ absurd (told.0 none)
        | inr refused ↦ refused
      ];
      block_is = told.1.block_is ∙ ap (block_text c.args.line.now) told.1.is_body;
    })) c.refused_block.ensures
