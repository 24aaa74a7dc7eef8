use Rattle.plan_base.proofs.Common.{◌≤◌, ◌^◌, ◌<◌, ℕ, List, sym, subst}
use Rattle.search_laws.specs.{IsLawfulLabels}
use Rattle.latest_departure.specs.{IsReversed, AcceptsReversed, StateLists, states_meaning}
use Rattle.latest_departure.proofs.{ReversedLemmas.accepts_reversed, TurnedLemmas.made_reversed, TurnedLemmas.made_few, TurnedLemmas.made_lawful}
use Rattle.latest_departure.proofs.reversed.Reversed.of.Goals as goal

pub invariant_of-result : goal.invariant_of-result
invariant_of-result g c = record {
  lawful = subst (λ (list : List StateLists). IsLawfulLabels (states_meaning list)) (sym c.in_ok-states.ensures)
      (made_lawful (g.L.Labels.automaton c.args.inner.now) (g.met.L.Labels.lawful c.args.inner.now) c.requires);
}

pub returns-clause-reversed : goal.returns-clause-reversed
returns-clause-reversed g c =
    subst (λ (list : List StateLists). IsReversed (g.L.Labels.automaton c.args.inner.now) (states_meaning list)) (sym c.in_ok-states.ensures)
    (made_reversed (g.L.Labels.automaton c.args.inner.now) (g.met.L.Labels.lawful c.args.inner.now))

pub returns-clause-accepts : goal.returns-clause-accepts
returns-clause-accepts g c =
    let l = g.L.Labels.automaton c.args.inner.now in
    let lawful = g.met.L.Labels.lawful c.args.inner.now in
    subst (λ (list : List StateLists). AcceptsReversed l (states_meaning list)) (sym c.in_ok-states.ensures)
    (accepts_reversed l _ lawful (made_lawful l lawful c.requires) (made_reversed l lawful))

pub returns-clause-few_moves : goal.returns-clause-few_moves
returns-clause-few_moves g c =
    let l = g.L.Labels.automaton c.args.inner.now in
    subst (λ (list : List StateLists). (q : ℕ) → q < l.states → (states_meaning list).moves q ≤ 2 ^ 16) (sym c.in_ok-states.ensures)
    (made_few l (g.met.L.Labels.lawful c.args.inner.now) c.requires)
