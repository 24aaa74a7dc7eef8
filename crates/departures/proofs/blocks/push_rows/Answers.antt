use Rattle.departures.proofs.TextLemmas.{nothing_told, pushed}
use Rattle.departures.proofs.blocks.push_rows.Goals as goal

pub loop-row-init : goal.loop-row-init
loop-row-init c = nothing_told c.args.network.now c.args.out.now.items

pub loop-row-preserved : goal.loop-row-preserved
loop-row-preserved c =
    pushed c.args.network.now c.args.rows.now c.loop-row.row-index c.row-item.result c.args.out.now.items c.loop-row.out.items c.push_row.new.out.items
    c.loop-row-test.true c.row-item.is c.loop-row.invariant c.in_ok-push_row.ensures
