use Rattle.plan_base.proofs.Common.{◌≡◌, take, count_by}
use Rattle.contractor.proofs.choosing.marked.Given as goal

abbrev pub invariant-nodes : goal.invariant-nodes
invariant-nodes l = count_by (λ b. b) (take l.v l.waiting) ≡ 0
