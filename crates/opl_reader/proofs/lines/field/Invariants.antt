use Rattle.plan_base.proofs.Common.{◌≡◌, ◌++◌, map, drop, option_map, option_to_list}
use Rattle.opl_reader.specs.{values_of, at_most_one, field_of}
use Rattle.opl_reader.proofs.lines.field.Given as goal

abbrev pub invariant-loop-field : goal.invariant-loop-field
invariant-loop-field l =
    at_most_one (option_to_list (option_map (λ value. value.now) l.found) ++ values_of l.letter (map (λ field. field.now) (drop l.field-index l.fields)))
    ≡ field_of l.letter (map (λ field. field.now) l.fields)
