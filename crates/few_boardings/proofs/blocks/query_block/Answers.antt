use Rattle.plan_base.proofs.Common.{inr, IfOk-weaker}
use Rattle.journey.specs.{asked_by}
use Rattle.few_boardings.proofs.blocks.query_block.Goals as goal

pub returns : goal.returns
returns c =
    IfOk-weaker c.rows_block.result _ _ (λ block told. inr (record {
      asked = asked_by c.args.query.now;
      asks = c.requires.asks;
      tells = record {
        text = told.text;
        is_body = record { rows = c.in_ok-rows.rows.items; are = c.in_ok-rows.ensures.rows; told = told.is_body };
        block_is = told.block_is;
      };
    })) (rw (c.as_slice.ensures, c.deref.ensures.value) at c.rows_block.ensures)
