use Rattle.plan_base.proofs.Common.{ℤ, ◌∙◌, ap, position}
use Rattle.std.proofs.Common.{to_z-of_z}
use Rattle.plan_base.specs.{number_of_mode}
use Rattle.region_build.specs.{number_of_end}
use Rattle.region_build.proofs.KeyLaws.{number_by_key, same_end_key}
use Rattle.region_build.proofs.ends.Ends.number.Goals as goal

pub returns-clause-value : goal.returns-clause-value
returns-clause-value c =
    c.get_index_of.ensures.index
    ∙ ap (λ (id : ℤ). position (same_end_key (id, c.number.result)) c.self.inside.keys.keys) (to_z-of_z c.ranges.id)
    ∙ ap (λ number. position (same_end_key (c.args.id, number)) c.self.inside.keys.keys) c.number.ensures
    ∙ ap (position (same_end_key (c.args.id, number_of_mode c.args.mode))) c.self.invariant
    ∙ number_by_key (c.args.id, c.args.mode) c.self.inside.ends.items
    ∙ ap (λ ends. number_of_end ends (c.args.id, c.args.mode)) c.self.view_is
