use Rattle.plan_base.proofs.Common.{◌≡◌, [], fold, map, drop, option_map}
use Rattle.opl_reader.specs.{each, is_key, with_tag, tag_at}
use Rattle.opl_reader.proofs.tags.read_each.Given as goal

abbrev pub invariant-loop-text : goal.invariant-loop-text
invariant-loop-text l =
    option_map (fold (with_tag (is_key l.element)) l.tags.items) (each tag_at (map (λ text. text.now) (drop l.text-index l.texts)))
    ≡ option_map (fold (with_tag (is_key l.element)) []) (each tag_at (map (λ text. text.now) l.texts))
