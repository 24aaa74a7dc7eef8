use Rattle.plan_base.proofs.Common.{◌≡◌, ◌++◌, map, drop, option_map}
use Rattle.opl_reader.specs.{each, reference_at}
use Rattle.opl_reader.proofs.references.read_each.Given as goal

abbrev pub invariant-loop-text : goal.invariant-loop-text
invariant-loop-text l =
    option_map (λ rest. l.ids.items ++ rest) (each reference_at (map (λ text. text.now) (drop l.text-index l.texts)))
    ≡ each reference_at (map (λ text. text.now) l.texts)
