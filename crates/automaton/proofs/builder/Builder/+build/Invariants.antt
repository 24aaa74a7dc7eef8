use Rattle.plan_base.proofs.Common.{map, drop}
use Rattle.mode_expression.specs.{form_of, in_turn, one_of}
use Rattle.automaton.specs.{written, copies_in_turn, options, inside.Adds, inside.built_of, inside.has}
use Rattle.automaton.proofs.builder.Builder.+build.Given as goal

-- the parts from `left` on were added
abbrev pub invariant-add_sequence-loop-left : goal.invariant-add_sequence-loop-left
invariant-add_sequence-loop-left l =
    Adds (built_of l.initial.self) (built_of l.self) (written (in_turn (map form_of (drop l.left l.parts)))) (has l.fn.after) (has l.next)

abbrev pub invariant-add_choice-loop-left : goal.invariant-add_choice-loop-left
invariant-add_choice-loop-left l =
    Adds (built_of l.initial.self) (built_of l.self) (written (one_of (map form_of (drop l.left l.parts)))) (has l.fn.after) (has l.entered)

abbrev pub invariant-add_copies-loop : goal.invariant-add_copies-loop
invariant-add_copies-loop l =
    Adds (built_of l.initial.self) (built_of l.self) (copies_in_turn l.counter (written (form_of l.part))) (has l.fn.after) (has l.next)

abbrev pub invariant-add_options-loop : goal.invariant-add_options-loop
invariant-add_options-loop l =
    Adds (built_of l.initial.self) (built_of l.self) (options l.counter (written (form_of l.part))) (has l.fn.after) (has l.next)
