use Rattle.plan_base.proofs.Common.{◌≡◌, ◌^◌, ◌<◌, take, fold, Some}
use Rattle.plain_texts.specs.{more}
use Rattle.opl_reader.specs.{digit_step}
use Rattle.opl_reader.proofs.ids.number.Given as goal

abbrev pub invariant-loop-byte : goal.invariant-loop-byte
invariant-loop-byte l = (l.n < 10 ^ l.byte-index) × (fold (more digit_step) (Some 0) (take l.byte-index l.digits) ≡ Some l.n)
