use Rattle.plan_base.proofs.Common.{ℕ, List, Vec, Global, subst, subst₂}
use Rattle.product_search.specs.{Label}
use Rattle.rounds.specs.inside.{asked_of, AddsLabels, IsWalkLabel, IsCrossingLabel}
use Rattle.rounds.proofs.ListLemmas.{labels_of}
use Rattle.rounds.proofs.asked.Asked.list.Goals as goal

pub returns : goal.returns
returns g c =
    let a = asked_of c.args.self.now in
    let turns = c.args.turns.now in
    let walks = c.args.reached.now.walks.items in
    let rows = c.args.reached.now.crossings.items in
    let mid = c.list_walks.new.labels.items in
    labels_of a c.args.firsts.items turns walks rows mid c.list_crossings.new.labels.items
    (subst₂ (λ (xs : List (Vec ℕ Global)) (firsts : List Label). AddsLabels (IsWalkLabel a turns xs) firsts mid) c.deref-3.ensures.value c.in_ok-reserve.ensures.items c.in_ok-list_walks.ensures)
    (subst (λ (xs : List (Vec ℕ Global)). AddsLabels (IsCrossingLabel a xs) mid c.list_crossings.new.labels.items) c.deref-4.ensures.value c.in_ok-list_crossings.ensures)
