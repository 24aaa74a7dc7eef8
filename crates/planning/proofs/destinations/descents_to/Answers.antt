use Rattle.plan_base.proofs.Common.{Bor, Option, None, Some, IfSome, subst, option_map}
use Rattle.hierarchy.specs.{declared.hierarchy.Hierarchy.Hierarchy, HierarchyLists}
use Rattle.mode_network.specs.NetworkLists.{NetworkLists}
use Rattle.cores.specs.{IsSoundOnCore}
use Rattle.planning.specs.{IsCoreIfGiven}
use Rattle.planning.proofs.destinations.descents_to.Goals as goal

-- where there is a hierarchy, that of its core is sound
over : (n : NetworkLists) (h : HierarchyLists) (core : Option (Bor Hierarchy)) → IsCoreIfGiven n (Some h) (option_map (λ (k : Bor Hierarchy). k.now) core) → IfSome core (λ (k : Bor Hierarchy). IsSoundOnCore n h k.now)
over n h None is = is
over n h (Some k) is = is

pub new-requires-clause-core : goal.new-requires-clause-core
new-requires-clause-core c = over c.args.network.now c.in-Some.hierarchy.now c.args.core (subst (λ o. IsCoreIfGiven c.args.network.now (option_map (λ (h : Bor Hierarchy). h.now) o) (option_map (λ (k : Bor Hierarchy). k.now) c.args.core)) c.in-Some.is c.requires.core)
