use Rattle.plan_base.proofs.Common.{arith}
use Rattle.hierarchy_file.proofs.{CauseLaws.gives_none, WholeLaws.gives_found}
use Rattle.hierarchy_file.proofs.decoding.decode_lists.Goals as goal

pub returns-clause-found : goal.returns-clause-found
returns-clause-found c = gives_found c.args.bytes.now c.lists_of.result (λ i. omega (arith, c.type_inv.bytes i)) c.lists_of.ensures

pub returns-clause-none : goal.returns-clause-none
returns-clause-none c = gives_none c.args.bytes.now c.lists_of.result (λ i. omega (arith, c.type_inv.bytes i)) c.lists_of.ensures
