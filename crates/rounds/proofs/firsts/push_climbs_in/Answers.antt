use Rattle.plan_base.proofs.Common.{[], ◌∷◌, ◌++◌, ◌+◌, ◌*◌, ◌∙◌, ℕ, sym, subst, ap, arith, get_or, take_all}
use Rattle.product_search.specs.{Label}
use Rattle.rounds.specs.inside.{AddsLabels, Climb, IsClimbIn, IsOfAny}
use Rattle.rounds.proofs.ListLemmas.{adds_none, adds_one, of_more}
use Rattle.rounds.proofs.firsts.push_climbs_in.Goals as goal

pub loop-climb-init : goal.loop-climb-init
loop-climb-init c = adds_none (IsOfAny (IsClimbIn c.args.state c.args.dep) []) c.args.labels.now.items (λ x of. omega (arith, (of.1).1))

pub loop-climb-preserved : goal.loop-climb-preserved
loop-climb-preserved c =
    let climbs = c.args.climbs.now in
    let k = c.loop-climb.climb-index in
    let none : Climb = record { node = 0; ms = 0 } in
    let climb : Climb = get_or climbs k none in
    let now = c.loop-climb.labels.items in
    let label : ℕ → Label = λ t. record { node = 2 * climb.node; state = c.args.state; at = c.args.dep + t } in
    of_more (IsClimbIn c.args.state c.args.dep) climbs k none c.loop-climb-test.true c.args.labels.now.items now c.push.new.self.items c.loop-climb.invariant
    (subst (AddsLabels (IsClimbIn c.args.state c.args.dep climb) now) (sym (c.in_ok-push.ensures.items ∙ ap (λ t. now ++ label t ∷ []) c.from.ensures)) (adds_one now (label climb.ms)))

pub returns : goal.returns
returns c =
    subst (λ xs. AddsLabels (IsOfAny (IsClimbIn c.args.state c.args.dep) xs) c.args.labels.now.items c.loop-climb.labels.items) (take_all c.loop-climb.climb-index c.args.climbs.now (omega (arith, c.loop-climb-test.false)))
    c.loop-climb.invariant
