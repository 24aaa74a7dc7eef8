use Rattle.plan_base.proofs.Common.{◌≡◌, ◌<◌, ◌+◌, ℕ, List, Vec, Global, All, Contains, take, length, get_or, slice_index, sym, ap, subst, arith, take_all, All-more}
use Rattle.product_search.specs.{Label}
use Rattle.phase_graph.specs.{node_of}
use Rattle.rounds.specs.inside.{AreLowered, IsOfLabel, IsNotedIn}
use Rattle.rounds.proofs.NoteLemmas.{noted_here, noted_nowhere, still_noted, label_lowered}
use Rattle.rounds.proofs.asked.Asked.note_crossings.Goals.{in-Some-place_of, in_default-place_of}
use Rattle.rounds.proofs.asked.Asked.note_crossings.Goals as goal

pub loop-label-preserved : goal.loop-label-preserved
loop-label-preserved g c =
    let rounds = c.args.self.now.rounds.now in
    let dep = c.args.self.now.dep in
    let nodes : List ℕ = rounds.crossings.items in
    let labels : List Label = c.args.labels.now in
    let k = c.loop-label.label-index in
    let d : Label = record { node = 0; state = 0; at = 0 } in
    let x : Label = get_or labels k d in
    let before = c.args.crossings.now.items in
    let now = c.loop-label.crossings.items in
    elim c.match-place_of.branch [
      | in-Some-place_of w ↦
          (let place = w.in-Some-place_of.place in
          let delay = c.in-Some.delay in
          let there = subst (λ (xs : List ℕ). (place < length xs) × (slice_index xs place ≡ node_of x.node)) c.deref.ensures.value w.in-Some-place_of.ensures.some in
          let next = w.lower.new.rows.items in
          let is : w.lower.new.rows.items ≡ c.match-place_of.crossings.items = ap (λ (v : Vec (Vec ℕ Global) Global). v.items) (sym w.crossings-is) in
          record {
            lowered = subst (AreLowered (IsOfLabel dep nodes labels) before) is
                (label_lowered dep nodes labels k d c.loop-label-test.true place delay there.0 there.1 c.in-Some.ensures.0 before now next w.lower.ensures.lowered c.loop-label.invariant.lowered);
            noted = subst (λ (rows : List (Vec ℕ Global)). All (IsNotedIn dep nodes rows) (take (k + 1) labels)) is
                (All-more (IsNotedIn dep nodes next) labels k d c.loop-label-test.true
                (still_noted dep nodes (take k labels) (λ q i t. (q ≡ x.state) × (i ≡ place) × (t ≡ delay)) now next w.lower.ensures.lowered c.loop-label.invariant.noted)
                (noted_here dep nodes rounds.crossing_places.items rounds.placed x place delay there.0 there.1 c.in-Some.ensures.0 c.in-Some.ensures.1 next w.lower.ensures.here));
          })
      | in_default-place_of w ↦
          (let nowhere = subst (λ (xs : List ℕ). Contains xs (node_of x.node) → ⊥) c.deref.ensures.value w.in_default-place_of.ensures.none in
          let is : now ≡ c.match-place_of.crossings.items = ap (λ (v : Vec (Vec ℕ Global) Global). v.items) (sym w.crossings-is) in
          record {
            lowered = subst (AreLowered (IsOfLabel dep nodes labels) before) is c.loop-label.invariant.lowered;
            noted = subst (λ (rows : List (Vec ℕ Global)). All (IsNotedIn dep nodes rows) (take (k + 1) labels)) is
                (All-more (IsNotedIn dep nodes now) labels k d c.loop-label-test.true c.loop-label.invariant.noted (noted_nowhere dep nodes rounds.crossing_places.items rounds.placed x nowhere now));
          })
    ]

pub returns-clause-noted : goal.returns-clause-noted
returns-clause-noted g c = λ yes.
    (let labels = c.args.labels.now in
    subst (All (IsNotedIn c.args.self.now.dep c.args.self.now.rounds.now.crossings.items c.loop-label.crossings.items)) (take_all c.loop-label.label-index labels (omega (arith, c.loop-label-test.false))) c.loop-label.invariant.noted)
