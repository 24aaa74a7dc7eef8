use Rattle.plan_base.proofs.Common.{◌≡◌, ◌∷◌, map, take}
use Rattle.automaton.specs.{inside.draft_row, inside.has, state_for, view_of}
use Rattle.automaton.proofs.state.make_states.Given as goal

abbrev pub invariant-loop-draft : goal.invariant-loop-draft
invariant-loop-draft l =
    map view_of l.states.items
    ≡ state_for (map draft_row l.drafts) (has l.fn.first) ∷ map (λ draft. state_for (map draft_row l.drafts) (has draft.next)) (take l.draft-index l.drafts)
