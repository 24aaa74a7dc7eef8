use Rattle.plan_base.proofs.Common.{◌≡◌, ◌∙◌, ◌-◌, cond, [], List, ℕ, ap, drop, map, subst, sym, take, true, slice_range, drop-map, take-map}
use Rattle.search_laws.specs.{Leg}
use Rattle.mode_network.specs.{range_of}
use Rattle.hierarchy.specs.{HierarchyLists, all_rises, has_legs, leg_of, legs_from, rise_from, rises_of}
use Rattle.hierarchy.proofs.hierarchy.Hierarchy.legs_from.Goals as goal

pub returns-then-has_legs : goal.returns-then-has_legs
returns-then-has_legs c =
    let h = c.self.inside.lists in
    let range = c.rise_range-first.result in
    let same : range ≡ range_of rise_from (all_rises h) c.args.u = subst (λ (l : HierarchyLists). range ≡ range_of rise_from (all_rises l) c.args.u) (sym c.self.view_is) c.rise_range-first.ensures.range in
    let short : has_legs h ≡ true = subst (λ (l : HierarchyLists). has_legs l ≡ true) (sym c.self.view_is) (sym c.has_legs.ensures ∙ c.if-has_legs.true) in
    let legs : c.deref.result.now ≡ map leg_of (all_rises h) = c.deref.ensures.value ∙ c.self.invariant.tables.legs ∙ ap (λ b. cond b (map leg_of (all_rises h)) []) short in
    let low = (range_of rise_from (all_rises h) c.args.u).0 in
    let high = (range_of rise_from (all_rises h) c.args.u).1 in
    subst (λ (l : HierarchyLists). slice_range c.deref.result.now range.0 range.1 ≡ legs_from l c.args.u) c.self.view_is
    (ap (λ (r : ℕ × ℕ). slice_range c.deref.result.now r.0 r.1) same ∙ ap (λ (ls : List Leg). slice_range ls low high) legs
    ∙ ap (take (high - low)) (drop-map leg_of low (all_rises h)) ∙ take-map leg_of (high - low) (drop low (all_rises h))
    ∙ sym (ap (λ b. cond b (map leg_of (rises_of h c.args.u)) []) short))
