use Rattle.plan_base.proofs.Common.{◌<◌, List, ℕ, length, subst, sym, ◌∙◌, All}
use Rattle.hierarchy.specs.{is_rise}
use Rattle.hierarchy.proofs.PlaceLemmas.{places_within}
use Rattle.hierarchy.proofs.tables.Tables.new.Goals as goal

pub legs-requires-clause-within : goal.legs-requires-clause-within
legs-requires-clause-within c =
    let entries = c.args.entries.now in
    subst (λ (places : List ℕ). All (λ k. k < length entries) places) (sym (c.deref-2.ensures.value ∙ c.in_ok-rows.ensures.rises)) (places_within (is_rise c.args.order.now) entries (length entries))
