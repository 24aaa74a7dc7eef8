use Rattle.plan_base.proofs.Common.{◌≡◌, map, drop, list_all}
use Rattle.opl_reader.specs.{is_field}
use Rattle.opl_reader.proofs.lines.are_fields.Given as goal

abbrev pub invariant-loop-field : goal.invariant-loop-field
invariant-loop-field l =
    list_all is_field (map (λ field. field.now) (drop l.field-index l.fields)) ≡ list_all is_field (map (λ field. field.now) l.fields)
