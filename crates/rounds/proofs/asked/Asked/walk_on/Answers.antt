use Rattle.plan_base.proofs.Common.{◌≡◌, ◌∙◌, ◌<◌, ◌≤◌, length, All-weaker, inl, inr, List, Vec, Global, ℕ, sym, subst, arith, All, slice_get_read}
use Rattle.sweeps.specs.{time_at, LeadsBetween, AreWalked}
use Rattle.rounds.specs.{Layers.Gate, Layers.CoreLayer, IsGate}
use Rattle.rounds.specs.inside.{asked_of, cell, IsLayerOf, IsWalkClosed, IsWalked, IsRowLowered, AreLowered, IsFedBy, IsGivenBack}
use Rattle.rounds.proofs.{RowLemmas.lowered_weaker, WalkLemmas.IsWalkedOn, WalkLemmas.on_walk, WalkLemmas.on_lowered, WalkLemmas.on_walked, WalkLemmas.on_reached, WalkLemmas.given_reached}
use Rattle.rounds.proofs.asked.Asked.walk_on.Goals.{then-feed, else-feed}
use Rattle.rounds.proofs.asked.Asked.walk_on.Goals as goal

pub returns : goal.returns
returns g c =
    let a = asked_of c.args.self.now in
    let are = c.requires.is in
    let network = c.known.ensures in
    let rules = c.known-2.ensures in
    let turn = c.args.turn.now in
    let is_turn = c.requires.turn in
    let layer : CoreLayer = c.index-layer.result.now in
    let is_layer : IsLayerOf a turn.letter layer = slice_get_read a.rounds.layers.items 3 turn.letter layer (sym are.many) is_turn.letter c.index-layer.ensures in
    let crossings : List (Vec ℕ Global) = c.args.crossings.now.items in
    let new : List (Vec ℕ Global) = c.give_back.new.crossings.items in
    let before : List ℕ = c.args.walk.now in
    let between : List ℕ = c.feed.new.walk in
    let after : List ℕ = c.if-feed.walk in
    let fed = subst (λ gates. IsRowLowered (IsFedBy turn gates c.deref-2.result.now) before between) c.deref.ensures.value c.feed.ensures.lowered in
    let all = subst (λ gates. All (λ q. All (λ (x : Gate). time_at between x.place ≤ cell c.deref-2.result.now q x.crossing) gates) turn.sources.items) c.deref.ensures.value c.feed.ensures.fed in
    let is : IsWalkedOn a are network rules turn is_turn layer is_layer crossings before after = record {
      between = between;
      fed = subst (λ (rows : List (Vec ℕ Global)). IsRowLowered (IsFedBy turn layer.gates.items rows) before between) c.deref-2.ensures.value fed;
      all = subst (λ (rows : List (Vec ℕ Global)). All (λ q. All (λ (x : Gate). time_at between x.place ≤ cell rows q x.crossing) layer.gates.items) turn.sources.items) c.deref-2.ensures.value all;
      swept = elim c.if-feed.branch [
        | then-feed w ↦ inr (subst (AreWalked (LeadsBetween layer.sheet) between) (sym w.walk-is) w.sweep.ensures.walked, subst (IsWalkClosed layer) (sym w.walk-is) (w.sweep.ensures.closed ((are.layers turn.letter layer is_layer).0).whole))
        | else-feed w ↦ inl (c.feed.ensures.same w.if-feed.false, w.walk-is)
      ];
    } in
    let given = subst (λ gates. AreLowered (IsGivenBack turn.state gates after) crossings new) c.deref-3.ensures.value c.give_back.ensures.lowered in
    let returned = subst (All (λ (x : Gate). cell new turn.state x.crossing ≤ time_at after x.place)) c.deref-3.ensures.value c.give_back.ensures.returned in
    record {
      walk = on_walk a are network rules turn is_turn layer is_layer crossings before after is c.requires.crossings c.requires.walk;
      walk_lowered = on_lowered a are network rules turn is_turn layer is_layer crossings before after is;
      crossings = given_reached a are network rules turn is_turn layer is_layer after crossings new (on_reached a are network rules turn is_turn layer is_layer crossings before after is c.requires.crossings (c.requires.walk.reached layer is_layer)) c.requires.crossings given;
      lowered = lowered_weaker (IsGivenBack turn.state layer.gates.items after) (λ k i t. Unit {0}) crossings new (λ k i t p. tt) given;
      same = c.give_back.ensures.same;
      walked = λ off other is_other. (let same = c.give_back.ensures.same off in
          subst (IsWalked turn other after) (sym same)
          (on_walked a are network rules turn is_turn layer is_layer crossings before after is c.requires.walk
          (subst (λ (rows : List (Vec ℕ Global)). All (λ (x : Gate). cell rows turn.state x.crossing ≤ time_at after x.place) layer.gates.items) same returned) other is_other));
    }

pub give_back-requires-clause-places : goal.give_back-requires-clause-places
give_back-requires-clause-places g c =
    let a = asked_of c.args.self.now in
    let turn = c.args.turn.now in
    let layer : CoreLayer = c.index-layer.result.now in
    let is_layer : IsLayerOf a turn.letter layer = slice_get_read a.rounds.layers.items 3 turn.letter layer (sym c.requires.is.many) c.requires.turn.letter c.index-layer.ensures in
    let gates = (c.requires.is.layers turn.letter layer is_layer).1 in
    let long : length c.if-feed.walk ≡ length layer.sheet.slope.nodes.items = c.if-feed.auto.walk ∙ c.feed.ensures.lowered.as_many ∙ (c.requires.walk.reached layer is_layer).as_many in
    subst (All (λ (x : Gate). x.place < length c.if-feed.walk)) (sym c.deref-3.ensures.value)
    (All-weaker (IsGate layer.sheet.slope.nodes.items a.rounds.crossings.items) (λ (x : Gate). x.place < length c.if-feed.walk) (λ x is. omega (arith, is.place, long)) layer.gates.items gates.are)
