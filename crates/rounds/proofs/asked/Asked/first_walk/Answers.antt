use Rattle.plan_base.proofs.Common.{◌≡◌, ◌∙◌, ◌-◌, ◌^◌, ℕ, List, Vec, Global, inl, inr, length, replicate, sym, ap, subst, arith, slice_get_read, with_items_is, length-replicate, get_or-replicate}
use Rattle.std.specs.Vec.{with_items}
use Rattle.sweeps.specs.{time_at, LeadsBetween, AreWalked}
use Rattle.rounds.specs.{Layers.CoreLayer}
use Rattle.rounds.specs.inside.{asked_of, IsLayerOf, IsWalkClosed, IsRowLowered, IsOfSource}
use Rattle.rounds.proofs.BeginLemmas.{IsBegun, begun_walk, begun_noted}
use Rattle.rounds.proofs.asked.Asked.first_walk.Goals.{then-some, else-some}
use Rattle.rounds.proofs.asked.Asked.first_walk.Goals as goal

pub returns : goal.returns
returns g c =
    let a = asked_of c.args.self.now in
    let are = c.requires.is in
    let turn = c.args.turn.now in
    let firsts = c.args.firsts.now in
    let layer : CoreLayer = c.index-layer.result.now in
    let is_layer : IsLayerOf a turn.letter layer = slice_get_read a.rounds.layers.items 3 turn.letter layer (sym are.many) c.requires.turn.letter c.index-layer.ensures in
    let nodes : List ℕ = layer.sheet.slope.nodes.items in
    let old : Vec ℕ Global = c.in_ok-walk.walk in
    let count = length c.nodes.result.now in
    let all : old.items ≡ replicate count (2 ^ 32 - 1) = c.in_ok-walk.ensures.items_if_clones_equal (λ y is. is) in
    let many : count ≡ length nodes = ap length c.nodes.ensures in
    let before : List ℕ = old.items in
    let noted : List ℕ = c.note_walk.new.walk in
    let after : List ℕ = c.if-some.walk.items in
    let lowered = subst (λ (xs : List ℕ). IsRowLowered (IsOfSource a.dep nodes firsts turn) xs noted) c.deref_mut.ensures.value c.in-Some.ensures.lowered in
    let first : (with_items old noted).items ≡ noted = with_items_is old noted (lowered.as_many ∙ sym old.ok.0) in
    let is : IsBegun a firsts c.requires.firsts are c.known.ensures c.known-2.ensures turn c.requires.turn layer is_layer before after = record {
      each = ap length all ∙ length-replicate count (2 ^ 32 - 1) ∙ many;
      none = λ i lt. ap (λ xs. time_at xs i) all ∙ get_or-replicate count i (2 ^ 32 - 1) 0 (omega (arith, lt, many));
      noted = noted;
      lowered = lowered;
      all = c.in-Some.ensures.noted;
      swept = elim c.if-some.branch [
        | then-some w ↦
            (let swept : List ℕ = w.sweep.new.times in
            let walked = subst (λ (xs : List ℕ). AreWalked (LeadsBetween layer.sheet) xs swept) (w.deref_mut-then-some.ensures.value ∙ first) w.sweep.ensures.walked in
            let second : (with_items (with_items old noted) swept).items ≡ swept = with_items_is (with_items old noted) swept (walked.as_many ∙ lowered.as_many ∙ sym old.ok.0) in
            let is : swept ≡ after = sym (ap (λ (v : Vec ℕ Global). v.items) w.walk-is ∙ second) in
            inr (subst (AreWalked (LeadsBetween layer.sheet) noted) is walked, subst (IsWalkClosed layer) is (w.sweep.ensures.closed ((are.layers turn.letter layer is_layer).0).whole)))
        | else-some w ↦ inl (c.in-Some.ensures.same w.if-some.false ∙ c.deref_mut.ensures.value, ap (λ (v : Vec ℕ Global). v.items) w.walk-is ∙ first)
      ];
    } in
    record {
      walk = begun_walk a firsts c.requires.firsts are c.known.ensures c.known-2.ensures turn c.requires.turn layer is_layer before after is;
      noted = begun_noted a firsts c.requires.firsts are c.known.ensures c.known-2.ensures turn c.requires.turn layer is_layer before after is;
    }
