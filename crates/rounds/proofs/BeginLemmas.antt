-- Walks that begin with labels, and crossings that do.
use Rattle.plan_base.proofs.Common.{◌≡◌, ◌∙◌, ℕ, ◌+◌, ◌<◌, ◌⊎◌, inl, inr, false, List, length, sym, ap, subst, subst₂, arith, Vec, Global, All, All-contains, slice_index, same_Some}
use Rattle.mode_network.specs.{IsNetwork}
use Rattle.hierarchy.specs.{IsHierarchy}
use Rattle.product_search.specs.{Label}
use Rattle.phase_graph.specs.{phase_node, node_of}
use Rattle.sweeps.specs.{time_at, LeadsBetween, AreWalked}
use Rattle.rounds.specs.{Layers.CoreLayer, AreRounds}
use Rattle.rounds.specs.inside.{cell, never, HaveShape, AreLowered, IsRowLowered, AskedMeaning, Reaches, IsLayerOf, AreFirsts, Turn, IsTurn, IsWalkReached, IsWalkClosed, IsWalkOf, AreCrossingsReached, IsOfLabel, IsOfSource, IsNotedAt}
use Rattle.rounds.proofs.{RowLemmas.shape_stays, NoteLemmas.still_there, WalkLemmas.ends_within, WalkLemmas.source_on, WalkLemmas.swept_reached}

module _ (a : AskedMeaning) (firsts : List Label) (are_firsts : AreFirsts a firsts) where
  -- what a first label is at is reached
  label_reached : (nodes : List ℕ) (q i t : ℕ) → IsOfLabel a.dep nodes firsts q i t → Reaches a (phase_node (slice_index nodes i) false) q (a.dep + t)
  label_reached nodes q i t is =
      let x = is.label in
      let reached = All-contains (λ (x : Label). Reaches a x.node x.state x.at) firsts x are_firsts.reached is.of in
      let node = All-contains (λ (x : Label). x.node ≡ phase_node (node_of x.node) false) firsts x are_firsts.before is.of in
      let here : x.node ≡ phase_node (slice_index nodes i) false = node ∙ ap (λ v. phase_node v false) (sym is.is) in
      subst (λ s. Reaches a (phase_node (slice_index nodes i) false) s (a.dep + t)) is.state (subst₂ (λ p u. Reaches a p x.state u) here is.at reached)

  -- crossings are, where there was none before
  pub crossings_begin : (before after : List (Vec ℕ Global)) → HaveShape a.labels.states (length a.rounds.crossings.items) before
      → ((q j : ℕ) → q < a.labels.states → j < length a.rounds.crossings.items → cell before q j ≡ never)
      → AreLowered (IsOfLabel a.dep a.rounds.crossings.items firsts) before after → AreCrossingsReached a after
  crossings_begin before after shape none noted = record {
    shape = shape_stays (IsOfLabel a.dep a.rounds.crossings.items firsts) a.labels.states (length a.rounds.crossings.items) before after noted shape;
    reached = λ q j state within some. elim (noted.by q j) [
      | inl stays ↦ absurd (omega (arith, stays, none q j state within, some))
      | inr by ↦ label_reached a.rounds.crossings.items q j (cell after q j) by
    ];
  }

  module _ (are : AreRounds a.rounds) (network : IsNetwork a.rounds.network.now) (rules : IsHierarchy a.rounds.hierarchy.now) (turn : Turn) (is_turn : IsTurn a.labels turn) (layer : CoreLayer)
      (is_layer : IsLayerOf a turn.letter layer) where
    abbrev nodes : List ℕ
    nodes = layer.sheet.slope.nodes.items

    -- a walk that had nothing before the labels were noted, and was swept where they changed it
    pub record IsBegun (before after : List ℕ) : Type 0 where
      pub each : length before ≡ length nodes
      pub none : (i : ℕ) → i < length nodes → time_at before i ≡ never
      pub noted : List ℕ
      pub lowered : IsRowLowered (IsOfSource a.dep nodes firsts turn) before noted
      pub all : All (IsNotedAt a.dep nodes turn noted) firsts
      pub swept : ((noted ≡ before) × (after ≡ noted)) ⊎ (AreWalked (LeadsBetween layer.sheet) noted after × IsWalkClosed layer after)

    module _ (before after : List ℕ) (is : IsBegun before after) where
      noted_reached : IsWalkReached a turn layer is.noted
      noted_reached = record {
        as_many = (is.lowered).as_many ∙ is.each;
        reached = λ i lt some. (let within : i < length nodes = omega (arith, lt, (is.lowered).as_many, is.each) in elim ((is.lowered).by i) [
          | inl stays ↦ absurd (omega (arith, stays, is.none i within, some))
          | inr (q, has, label) ↦ source_on a are network rules turn is_turn layer is_layer q i (a.dep + time_at is.noted i) has within (label_reached nodes q i (time_at is.noted i) label)
        ]);
      }

      reached : IsWalkReached a turn layer after
      reached = elim (is.swept) [
        | inl same ↦ subst (IsWalkReached a turn layer) (sym same.1) noted_reached
        | inr swept ↦ swept_reached a are network rules turn is_turn layer is_layer is.noted after noted_reached swept.0
      ]

      closed : IsWalkClosed layer after
      closed = elim (is.swept) [
        | inl same ↦ subst (IsWalkClosed layer) (sym (same.1 ∙ same.0)) (λ i j w leads below.
            absurd (omega (arith, below, is.none i (ends_within a are network rules turn is_turn layer is_layer i j w leads).0)))
        | inr swept ↦ swept.1
      ]

      -- is a walk of its turn
      pub begun_walk : IsWalkOf a turn after
      begun_walk = record {
        reached = λ other is_other. subst (λ x. IsWalkReached a turn x after) (same_Some layer other (sym is_layer ∙ is_other)) reached;
        closed = λ other is_other. subst (λ x. IsWalkClosed x after) (same_Some layer other (sym is_layer ∙ is_other)) closed;
      }

      pub begun_noted : (other : CoreLayer) → IsLayerOf a turn.letter other → All (IsNotedAt a.dep other.sheet.slope.nodes.items turn after) firsts
      begun_noted other is_other =
          subst (λ (x : CoreLayer). All (IsNotedAt a.dep x.sheet.slope.nodes.items turn after) firsts) (same_Some layer other (sym is_layer ∙ is_other))
          (elim (is.swept) [
            | inl same ↦ subst (λ (walk : List ℕ). All (IsNotedAt a.dep nodes turn walk) firsts) (sym same.1) is.all
            | inr swept ↦ still_there a.dep nodes firsts turn is.noted after (swept.0).no_later is.all
          ])
