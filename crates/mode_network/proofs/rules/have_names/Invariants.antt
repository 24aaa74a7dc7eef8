use Rattle.plan_base.proofs.Common.{◌≡◌, true, AllWithin}
use Rattle.plain_texts.specs.{is_name}
use Rattle.mode_network.proofs.rules.have_names.Given as goal

abbrev pub invariant-loop-name : goal.invariant-loop-name
invariant-loop-name l = AllWithin (λ name. is_name name ≡ true) l.names 0 l.name-index
