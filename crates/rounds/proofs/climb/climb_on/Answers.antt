use Rattle.plan_base.proofs.Common.{◌≡◌, ◌∙◌, ◌+◌, ◌/◌, ◌<◌, ℕ, List, length, All, get_or, get_or-map, slice_index, sym, subst, ap, arith, take_all, refl, ltb-true, lt-ltb, false, false≢true, length-map, ◌≤◌}
use Rattle.search_laws.specs.{Leg}
use Rattle.hierarchy.specs.{legs_from, IsContracted, is_contracted, HierarchyLists}
use Rattle.sweeps.specs.{time_at}
use Rattle.rounds.specs.inside.{never, nodes_of_rungs, Rung}
use Rattle.rounds.proofs.ClimbLemmas.{core_ends, lowered_more, passed_more, passed_legs, place_stays, IsLed}
use Rattle.rounds.proofs.climb.climb_on.Goals.{then-delay-via-then-delay, then-delay-via-else-delay+then-not-contracted}
use Rattle.rounds.proofs.climb.climb_on.Goals as goal

-- the node of a rung
node_of : (rungs : List Rung) (i : ℕ) → i < length rungs → slice_index (nodes_of_rungs rungs) i ≡ (get_or rungs i (record { height = 0; node = 0 })).node
node_of rungs i lt = get_or-map (λ (rung : Rung). rung.node) rungs i (record { height = 0; node = 0 }) 0 lt

pub returns-then-delay-clause-passed : goal.returns-then-delay-clause-passed
returns-then-delay-clause-passed c = λ yes v w less climbs. elim c.then-delay.branch [
  | then-delay-via-then-delay b ↦ absurd (omega (arith, less, b.if-delay))
  | then-delay-via-else-delay+then-not-contracted b ↦
      let h : HierarchyLists = c.args.h.now in
      let node = slice_index (nodes_of_rungs c.args.rungs.now) c.args.place in
      let no : is_contracted h.order node ≡ false = ap (is_contracted h.order) (node_of c.args.rungs.now c.args.place c.requires.place) ∙ sym b.contracted.ensures ∙ b.if-not-contracted.true in
      absurd (core_ends h node v w (λ low. false≢true (sym no ∙ lt-ltb _ _ low)) climbs)
]

pub loop-leg-preserved : goal.loop-leg-preserved
loop-leg-preserved c =
    let h : HierarchyLists = c.args.h.now in
    let rungs : List Rung = c.args.rungs.now in
    let nodes = nodes_of_rungs rungs in
    let i = c.args.place in
    let u = (get_or rungs i (record { height = 0; node = 0 })).node in
    let here = node_of rungs i c.requires.place in
    let old = c.args.delays.now in
    let now = c.loop-leg.delays in
    let next = c.lower_in.new.delays in
    let delay = time_at old i in
    let k = c.loop-leg.leg-index in
    let d : Leg = record { to = 0; ms = 0 } in
    let legs : List Leg = c.legs_from-leg-items.result.now in
    let are : legs ≡ legs_from h u = c.legs_from-leg-items.ensures in
    let lt : k < length (legs_from h u) = subst (λ (xs : List Leg). k < length xs) are c.loop-leg-test.true in
    let leg : get_or legs k d ≡ get_or (legs_from h u) k d = ap (λ (xs : List Leg). get_or xs k d) are in
    let j = c.in-Some.above in
    let later = c.in-Some-later.later in
    let is : slice_index nodes j ≡ (get_or (legs_from h u) k d).to / 2 = c.in-Some.ensures.is ∙ ap (λ (x : Leg). x.to / 2) leg in
    let at : later ≡ delay + (get_or (legs_from h u) k d).ms = c.in-Some-later.ensures.0 ∙ ap (λ (x : Leg). delay + x.ms) leg in
    let some : delay < never = omega (arith, at, c.in-Some-later.ensures.1) in
    let low : IsContracted h.order u = ltb-true _ _ (sym c.contracted.ensures ∙ c.if-not-contracted.false) in
    let within : j < length nodes = omega (arith, c.in-Some.ensures.within, length-map rungs (λ (rung : Rung). rung.node)) in
    record {
      lowered = lowered_more h nodes i c.known.ensures c.requires.legs u delay here some low k d lt j later c.in-Some.ensures.behind is at old now next refl c.lower_in.ensures.lowered c.loop-leg.invariant.lowered;
      passed = passed_more h nodes i c.known.ensures c.requires.legs u delay here some low k d lt j later c.in-Some.ensures.behind is at old now next refl c.lower_in.ensures.lowered
          within c.in-Some-later.ensures.1 c.lower_in.ensures.here c.loop-leg.invariant.passed;
    }

pub returns-clause-passed : goal.returns-clause-passed
returns-clause-passed c = λ yes v w less climbs.
    let h : HierarchyLists = c.args.h.now in
    let rungs : List Rung = c.args.rungs.now in
    let nodes = nodes_of_rungs rungs in
    let i = c.args.place in
    let u = (get_or rungs i (record { height = 0; node = 0 })).node in
    let here = node_of rungs i c.requires.place in
    let old = c.args.delays.now in
    let now = c.loop-leg.delays in
    let was : time_at now i ≡ time_at old i = place_stays h nodes i old now c.loop-leg.invariant.lowered i (omega arith) in
    let many : length (legs_from h u) ≤ c.loop-leg.leg-index = omega (arith, c.loop-leg-test.false, ap length c.legs_from-leg-items.ensures) in
    let all = subst (All (IsLed nodes i (time_at old i) now)) (take_all c.loop-leg.leg-index (legs_from h u) many) c.loop-leg.invariant.passed in
    passed_legs h nodes i c.known.ensures c.requires.legs u (time_at old i) here (omega (arith, was, less)) now was all v w less climbs
