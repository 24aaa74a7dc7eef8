use Rattle.plan_base.proofs.Common.{◌≡◌, ◌/◌, ◌∙◌, ℕ, List, Vec, Global, refl, sym, subst, arith, false≢true, with_items_is}
use Rattle.std.specs.Vec.{with_items}
use Rattle.descents.specs.inside.Delaying.{EndsAt, IsMin}
use Rattle.descents.proofs.DelayLemmas.{ends_nowhere, ends_there, goes_on}
use Rattle.descents.proofs.delays.Delays.note.Goals.{else-label-eq0-via-then-label-eq0+else-accepts, else-label-eq0-via-else-label-eq0}
use Rattle.descents.proofs.delays.Delays.note.Goals as goal

-- what is lowered in the slice of a vector is lowered in the vector
in_vec : (place delay : ℕ) (v : Vec ℕ Global) (before after : List ℕ) → before ≡ v.items → IsMin place delay before after → IsMin place delay v.items (with_items v after).items
in_vec place delay v before after is least =
    let here = subst (λ (times : List ℕ). IsMin place delay times after) is least in
    subst (IsMin place delay v.items) (sym (with_items_is v after (here.as_many ∙ sym v.ok.0))) here

pub returns-else-label-eq0 : goal.returns-else-label-eq0
returns-else-label-eq0 g c = λ yes labels are.
    (let l = g.L.Labels.automaton c.args.automaton.now in
    let x = c.args.label.now in
    ends_nowhere c.args.network.now c.args.slope.now.nodes.items l c.args.dep labels x c.in-Some.delay c.in-Some.ensures.0 c.in-Some.ensures.1 c.args.self.now are
    (elim c.else-label-eq0.branch as (λ b. (v : ℕ) → EndsAt l v x → ⊥) [
      | else-label-eq0-via-then-label-eq0+else-accepts w ↦ λ v end. false≢true (w.if-accepts.ensures ∙ end.1)
      | else-label-eq0-via-else-label-eq0 w ↦ λ v end. w.if-label-eq0.false (omega (arith, end.0))
    ]))

pub returns-in_default-top_of : goal.returns-in_default-top_of
returns-in_default-top_of g c = λ yes labels are.
    (let x = c.args.label.now in
    let node = x.node / 2 in
    ends_there c.args.network.now c.args.slope.now.nodes.items (g.L.Labels.automaton c.args.automaton.now) c.args.dep labels x c.in-Some.delay c.in-Some.ensures.0 c.in-Some.ensures.1 c.args.self.now are
    node (omega (arith, c.if-label-eq0.true), sym c.if-accepts.ensures) _ (in_vec node c.in-Some.delay c.args.self.now.ends _ c.lower.new.delays c.deref_mut.ensures.value c.lower.ensures) c.in_default-top_of.ensures.none refl)

pub returns-in-Some-top_of : goal.returns-in-Some-top_of
returns-in-Some-top_of g c = λ yes labels are.
    (let x = c.args.label.now in
    let node = x.node / 2 in
    let place = c.in-Some-top_of.place in
    goes_on c.args.network.now c.args.slope.now.nodes.items (g.L.Labels.automaton c.args.automaton.now) c.args.dep labels x c.in-Some.delay c.in-Some.ensures.0 c.in-Some.ensures.1 c.args.self.now are
    node (omega (arith, c.if-label-eq0.true), sym c.if-accepts.ensures) _ (in_vec node c.in-Some.delay c.args.self.now.ends _ c.lower.new.delays c.deref_mut.ensures.value c.lower.ensures)
    c.args.slope.now.places.items c.args.slope.now.placed place c.in-Some-top_of.ensures.some (in_vec place c.in-Some.delay c.args.self.now.tops _ c.lower-in-Some-top_of.new.delays c.deref_mut-in-Some-top_of.ensures.value c.lower-in-Some-top_of.ensures))
