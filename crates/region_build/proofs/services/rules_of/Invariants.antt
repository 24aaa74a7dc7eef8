use Rattle.plan_base.proofs.Common.{◌≡◌, ℕ, List, take}
use Rattle.region_build.specs.{inside.at, rule_of}
use Rattle.region_build.proofs.services.rules_of.Given as goal

abbrev pub invariant-loop-service : goal.invariant-loop-service
invariant-loop-service l = (id : List ℕ) → at l.rules id ≡ rule_of (take l.service-index l.services) id
