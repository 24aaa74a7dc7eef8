use Rattle.plan_base.proofs.Common.{◌≡◌, ◌++◌, length, option_map}
use Rattle.opl_reader.specs.{unescaped}
use Rattle.opl_reader.proofs.escapes.unescape.Given as goal

abbrev pub invariant-loop-plain : goal.invariant-loop-plain
invariant-loop-plain l = option_map (λ tail. l.bytes.items ++ tail) (unescaped l.rest) ≡ unescaped l.text

abbrev pub decreases-loop-plain : goal.decreases-loop-plain
decreases-loop-plain l = length l.rest
