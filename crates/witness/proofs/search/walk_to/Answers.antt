use Rattle.plan_base.proofs.Common.{◌∙◌, sym, subst, false≢true}
use Rattle.witness.specs.{NoWalkWithin, inside.IsSearch, inside.IsBusy}
use Rattle.witness.proofs.SearchLemmas.{next_search, passed_over, none_found}
use Rattle.witness.proofs.search.walk_to.Goals as goal

pub relax-requires-clause-search : goal.relax-requires-clause-search
relax-requires-clause-search c =
    let n = c.in-Some.ensures.next in
    let i = c.turns.invariant in
    subst (λ k. IsSearch c.args.rows.now k (IsBusy c.in-Some.node c.in-Some.at) c.next.new.self) (sym (n.same.same.most ∙ i.same.most))
    (next_search c.args.rows.now c.args.workspace.now.most c.turns.workspace c.next.new.self c.in-Some.at c.in-Some.node n i.search)

pub turns-preserved : goal.turns-preserved
turns-preserved c =
    let n = c.in-Some.ensures.next in
    let i = c.turns.invariant in
    record {
      search = passed_over c.args.rows.now c.args.workspace.now.most c.next.new.self c.in-Some.at c.in-Some.node (λ k. false≢true (sym c.if-is_known_at.false ∙ (c.is_known_at.ensures.1 k)))
          (next_search c.args.rows.now c.args.workspace.now.most c.turns.workspace c.next.new.self c.in-Some.at c.in-Some.node n i.search);
      same = (let a = n.same.same in let b = i.same in record { round = a.round ∙ b.round; start = a.start ∙ b.start; most = a.most ∙ b.most });
    }

pub returns-in-None-clause-none : goal.returns-in-None-clause-none
returns-in-None-clause-none c =
    let i = c.turns.invariant in
    subst (λ u. NoWalkWithin c.args.rows.now u c.args.v c.args.limit) i.same.start
    (none_found c.args.rows.now c.args.workspace.now.most c.args.limit c.args.v c.turns.workspace c.requires.limit i.search c.in-None.ensures.none (λ r. false≢true (c.turns-test.ensures.1 r)))
