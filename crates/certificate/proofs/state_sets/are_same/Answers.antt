use mathlib.Core.Bool.{beq}
use Rattle.plan_base.proofs.Common.{◌≡◌, Bool, true, false, Decides, refl, sym}
use Rattle.std.proofs.lemmas.Slice.Eq.{slice_eq-Decides}
use Rattle.certificate.proofs.state_sets.are_same.Goals as goal

same : (a b : Bool) → Decides (beq a b) (a ≡ b)
same true true = (λ e. refl, λ e. refl)
same true false = (λ e. sym e, λ e. sym e)
same false true = (λ e. e, λ e. e)
same false false = (λ e. refl, λ e. refl)

pub returns : goal.returns
returns c = λ is. (slice_eq-Decides same c.args.one.now c.args.other.now c.eq.result c.eq.ensures).0 is
