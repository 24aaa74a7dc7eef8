use Rattle.plan_base.proofs.Common.{◌≡◌, ◌∙◌, List, ℕ, ap, subst, sym, slice_range}
use Rattle.mode_network.specs.{range_of}
use Rattle.hierarchy.specs.{HierarchyLists, ArePlaces, places_of, RisesFrom, all_rises, is_rise, rise_from, rise_places_from}
use Rattle.hierarchy.proofs.RiseLemmas.{are_rise_places, places_ranged}
use Rattle.hierarchy.proofs.hierarchy.Hierarchy.rise_places_from.Goals as goal

pub returns-clause-list : goal.returns-clause-list
returns-clause-list c =
    let h = c.self.inside.lists in
    let range = c.rise_range-first.result in
    let rises : c.deref.result.now ≡ places_of (is_rise h.order) h.entries = c.deref.ensures.value ∙ c.self.invariant.tables.rises in
    let same : range ≡ range_of rise_from (all_rises h) c.args.u = subst (λ (l : HierarchyLists). range ≡ range_of rise_from (all_rises l) c.args.u) (sym c.self.view_is) c.rise_range-first.ensures.range in
    subst (λ (l : HierarchyLists). slice_range c.deref.result.now range.0 range.1 ≡ rise_places_from l c.args.u) c.self.view_is
    (ap (λ (r : ℕ × ℕ). slice_range c.deref.result.now r.0 r.1) same ∙ ap (λ (places : List ℕ). slice_range places (range_of rise_from (all_rises h) c.args.u).0 (range_of rise_from (all_rises h) c.args.u).1) rises
    ∙ sym (places_ranged h c.self.invariant.rules c.args.u))

pub returns-clause-are : goal.returns-clause-are
returns-clause-are c =
    let h = c.self.inside.lists in
    let list = returns-clause-list c in
    let are = subst (λ (l : HierarchyLists). ArePlaces (RisesFrom l.order c.args.u) l.entries (rise_places_from l c.args.u)) c.self.view_is (are_rise_places h c.self.invariant.rules c.args.u) in
    subst (ArePlaces (RisesFrom c.args.self.now.order c.args.u) c.args.self.now.entries) (sym list) are
