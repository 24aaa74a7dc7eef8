use Rattle.plan_base.proofs.Common.{arith}
use Rattle.sweeps.proofs.SweepLemmas.{both_walked, both_closed}
use Rattle.sweeps.proofs.sheet.Sheet.sweep.Goals as goal

pub returns : goal.returns
returns c =
    let s = c.args.self.now in
    let before = c.args.times.now in
    let between = c.sweep_up.new.times in
    let after = c.sweep_down.new.times in
    let up = c.sweep_up.ensures in
    let down = c.sweep_down.ensures in
    record {
      walked = both_walked s before between after up.walked down.walked;
      closed = both_closed s before between after up.walked down.walked c.args.limit (omega (arith, c.ranges.limit.fits)) up.closed down.closed;
    }
