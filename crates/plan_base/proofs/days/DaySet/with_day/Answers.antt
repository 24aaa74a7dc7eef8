use Rattle.plan_base.proofs.Common.{arith}
use Rattle.std.specs.Int.{w128}
use Rattle.std.proofs.lemmas.Nat.Bits.{bit_at_set_same, bit_at_set_other}
use Rattle.plan_base.proofs.days.DaySet.with_day.Goals as goal

pub returns : goal.returns
returns c other = grind (arith, bit_at_set_same w128 c.args.self.0 c.args.day (omega (arith, c.requires)), bit_at_set_other w128 c.args.self.0 c.args.day (omega (arith, c.requires)) other)
