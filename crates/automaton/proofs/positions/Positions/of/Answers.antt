use Rattle.plan_base.proofs.Common.{ℕ, ◌∙◌, [], false, ap, subst, map, length, arith, length-map}
use Rattle.mode_expression.specs.{form_of}
use Rattle.automaton.specs.{inside.Built, inside.built_of, inside.draft_row, inside.Adds, inside.has, written, view_of, states_for}
use Rattle.automaton.proofs.{PositionLemmas.end, OfLemmas.few_rows, OfLemmas.of_lawful, OfLemmas.of_states, OfLemmas.of_accepts, OfLemmas.of_few_states, OfLemmas.of_few_moves}
use Rattle.automaton.proofs.positions.Positions.of.Goals as goal

abbrev fresh_of : ℕ → Built
fresh_of n = record { at = n; dry = false; rows = [] }

pub make_states-requires : goal.make_states-requires
make_states-requires c =
    let form = form_of c.args.expr.now in
    let old = built_of c.new-builder.result in
    let new = built_of c.add.new.self in
    let first = has c.in_ok-first.first in
    let fresh = c.new-builder.ensures ∙ ap (λ n. fresh_of n) c.places.ensures in
    let adds : Adds old new (written form) end first = subst (λ K. Adds old new (written form) K first) c.just.ensures c.in_ok-first.ensures in
    let drafts = ap (map draft_row) c.deref.ensures.value ∙ c.into_drafts-drafts.ensures in
    omega (arith, few_rows form c.requires old new first fresh adds, ap length drafts, length-map c.deref.result.now draft_row)

pub invariant_of-result : goal.invariant_of-result
invariant_of-result c =
    let form = form_of c.args.expr.now in
    let old = built_of c.new-builder.result in
    let new = built_of c.add.new.self in
    let first = has c.in_ok-first.first in
    let fresh = c.new-builder.ensures ∙ ap (λ n. fresh_of n) c.places.ensures in
    let adds : Adds old new (written form) end first = subst (λ K. Adds old new (written form) K first) c.just.ensures c.in_ok-first.ensures in
    let drafts = ap (map draft_row) c.deref.ensures.value ∙ c.into_drafts-drafts.ensures in
    let views = map view_of c.in_ok-states.states.items in
    let made = c.in_ok-states.ensures ∙ ap (λ r. states_for r first) drafts in
    record { lawful = of_lawful form c.requires old new first fresh adds views made }

pub returns-clause-states : goal.returns-clause-states
returns-clause-states c =
    let form = form_of c.args.expr.now in
    let old = built_of c.new-builder.result in
    let new = built_of c.add.new.self in
    let first = has c.in_ok-first.first in
    let fresh = c.new-builder.ensures ∙ ap (λ n. fresh_of n) c.places.ensures in
    let adds : Adds old new (written form) end first = subst (λ K. Adds old new (written form) K first) c.just.ensures c.in_ok-first.ensures in
    let drafts = ap (map draft_row) c.deref.ensures.value ∙ c.into_drafts-drafts.ensures in
    let views = map view_of c.in_ok-states.states.items in
    let made = c.in_ok-states.ensures ∙ ap (λ r. states_for r first) drafts in
    of_states form c.requires old new first fresh adds views made

pub returns-clause-accepts : goal.returns-clause-accepts
returns-clause-accepts c =
    let form = form_of c.args.expr.now in
    let old = built_of c.new-builder.result in
    let new = built_of c.add.new.self in
    let first = has c.in_ok-first.first in
    let fresh = c.new-builder.ensures ∙ ap (λ n. fresh_of n) c.places.ensures in
    let adds : Adds old new (written form) end first = subst (λ K. Adds old new (written form) K first) c.just.ensures c.in_ok-first.ensures in
    let drafts = ap (map draft_row) c.deref.ensures.value ∙ c.into_drafts-drafts.ensures in
    let views = map view_of c.in_ok-states.states.items in
    let made = c.in_ok-states.ensures ∙ ap (λ r. states_for r first) drafts in
    of_accepts form c.requires old new first fresh adds views made

pub returns-clause-few_states : goal.returns-clause-few_states
returns-clause-few_states c =
    let form = form_of c.args.expr.now in
    let old = built_of c.new-builder.result in
    let new = built_of c.add.new.self in
    let first = has c.in_ok-first.first in
    let fresh = c.new-builder.ensures ∙ ap (λ n. fresh_of n) c.places.ensures in
    let adds : Adds old new (written form) end first = subst (λ K. Adds old new (written form) K first) c.just.ensures c.in_ok-first.ensures in
    let drafts = ap (map draft_row) c.deref.ensures.value ∙ c.into_drafts-drafts.ensures in
    let views = map view_of c.in_ok-states.states.items in
    let made = c.in_ok-states.ensures ∙ ap (λ r. states_for r first) drafts in
    of_few_states form c.requires old new first fresh adds views made

pub returns-clause-few_moves : goal.returns-clause-few_moves
returns-clause-few_moves c =
    let form = form_of c.args.expr.now in
    let old = built_of c.new-builder.result in
    let new = built_of c.add.new.self in
    let first = has c.in_ok-first.first in
    let fresh = c.new-builder.ensures ∙ ap (λ n. fresh_of n) c.places.ensures in
    let adds : Adds old new (written form) end first = subst (λ K. Adds old new (written form) K first) c.just.ensures c.in_ok-first.ensures in
    let drafts = ap (map draft_row) c.deref.ensures.value ∙ c.into_drafts-drafts.ensures in
    let views = map view_of c.in_ok-states.states.items in
    let made = c.in_ok-states.ensures ∙ ap (λ r. states_for r first) drafts in
    of_few_moves form c.requires old new first fresh adds views made
