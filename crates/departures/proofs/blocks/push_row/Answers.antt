use Rattle.plan_base.proofs.Common.{on_ok_weaker}
use Rattle.departures.proofs.TextLemmas.{row_told}
use Rattle.departures.proofs.blocks.push_row.Goals as goal

pub returns : goal.returns
returns c = on_ok_weaker c.push_late.result (row_told c.args.network.now c.args.row.now c.args.out.now.items c.push_late.new.out.items) c.push_late.ensures
