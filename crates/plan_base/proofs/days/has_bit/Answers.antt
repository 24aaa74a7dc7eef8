use Rattle.plan_base.proofs.Common.{sym, ap, ◌==◌, bit_at_above}
use Rattle.plan_base.proofs.days.has_bit.Goals as goal

pub returns-else-at-lt128 : goal.returns-else-at-lt128
returns-else-at-lt128 c = ap (λ bit. bit == 1) (sym (bit_at_above c.args.bits 128 c.args.at (search c.ranges.bits) c.if-at-lt128.false))
