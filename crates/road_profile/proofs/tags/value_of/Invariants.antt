use Rattle.plan_base.proofs.Common.{◌≡◌, drop, bytes_eq, lookup}
use Rattle.road_profile.proofs.tags.value_of.Given as goal

abbrev pub invariant-loop-tag : goal.invariant-loop-tag
invariant-loop-tag l =
    lookup (λ other. bytes_eq other l.key) (drop l.tag-index l.tags) ≡ lookup (λ other. bytes_eq other l.key) l.tags
