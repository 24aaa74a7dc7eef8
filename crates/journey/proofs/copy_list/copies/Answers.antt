use Rattle.plan_base.proofs.Common.{IfOk-weaker}
use Rattle.journey.proofs.CopyLemmas.{copies_in_range, row_of_copies}
use Rattle.journey.proofs.copy_list.copies.Goals as goal

pub returns-in-Some-clause-are : goal.returns-in-Some-clause-are
returns-in-Some-clause-are c =
    IfOk-weaker c.numbers.result _ _ (λ list. row_of_copies c.args.network.now c.args.endpoint.now (c.in-Some.first, c.in-Some.end) c.in-Some.ensures list.items) c.numbers.ensures

pub returns-in-Some-clause-nodes : goal.returns-in-Some-clause-nodes
returns-in-Some-clause-nodes c =
    let are = row_of_copies c.args.network.now c.args.endpoint.now (c.in-Some.first, c.in-Some.end) c.in-Some.ensures in
    IfOk-weaker c.numbers.result _ _ (λ list is. copies_in_range c.args.network.now c.known.ensures c.args.endpoint.now list.items (are list.items is)) c.numbers.ensures
