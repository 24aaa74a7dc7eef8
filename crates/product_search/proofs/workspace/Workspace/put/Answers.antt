use Rattle.plan_base.proofs.Common.{arith}
use Rattle.product_search.proofs.workspace.Workspace.put.Goals as goal

pub cleared-first-requires : goal.cleared-first-requires
cleared-first-requires c = rw c.deref.ensures.value (λ v k is. (let p = (c.requires.indexed.first_of v).there k is in (k, omega arith, p.1, p.2, p.3)))
