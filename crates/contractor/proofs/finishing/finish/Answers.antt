use Rattle.plan_base.proofs.Common.{rules, subst, sym, ℕ, answers_always}
use Rattle.hierarchy.specs.{Entry}
use Rattle.contractor.specs.inside.{IsFinished}
use Rattle.contractor.proofs.FinishLemmas.{is_hierarchy, finished}
use Rattle.contractor.proofs.finishing.finish.Goals as goal

abbrev ends_of : Entry → ℕ × ℕ
ends_of e = (e.from, e.to)

pub new-requires : goal.new-requires
new-requires c =
    let e = c.sort_unstable_by_key in
    is_hierarchy c.args.network.now c.args.layer c.requires e.new.self.items e.ensures.permutation c.sort.new.self c.sort.ensures.moved c.known.ensures
    (e.ensures.sorted ends_of (answers_always _ _ _ (λ f a r f' k. search rules))) c.sort.ensures.sorted

pub returns : goal.returns
returns c =
    let e = c.sort_unstable_by_key in
    subst (IsFinished c.args.network.now c.args.layer.order.items) (sym c.new.ensures)
    (finished c.args.network.now c.args.layer c.requires e.new.self.items e.ensures.permutation c.sort.new.self c.sort.ensures.moved)
