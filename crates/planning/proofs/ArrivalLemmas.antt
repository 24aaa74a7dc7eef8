-- A least arrival over the graph in use, at the copies of one destination among its targets, is that of a best journey.
use Rattle.plan_base.proofs.Common.{ℕ, ◌≤◌, ◌∙◌, List, ◌∷◌, Option, Some, None, refl, sym, ap, subst, arith, Contains}
use Rattle.search_laws.specs.{collapse, GraphMeaning, LabelsMeaning, WalkStep, wait, IsWalk, word_from, ArrivesAt}
use Rattle.product_search.specs.{IsArrival}
use Rattle.hierarchy.specs.{HierarchyLists}
use Rattle.plain_graph.proofs.Same.{walks_are_journeys}
use Rattle.phase_graph.specs.{phase_node, IsPhaseGraph, node_of, is_down, IsInUse, IsSoundIfGiven, starts_in, ends_in, node_under, HasJourney}
use Rattle.phase_graph.proofs.{GraphLemmas.whole, GraphLemmas.half, GraphMoves.is_phase_graph, InUseLemmas.starts_under, InUseLemmas.ends_under, InUseLemmas.walk_to_some, WalkedLemmas.walks_have_journeys}
use Rattle.mode_expression.specs.{IsWordOf}
use Rattle.mode_network.specs.{NetworkLists.NetworkLists, IsNetwork, Route}
use Rattle.journey.specs.{AreTheCopies, Asked, Answers}
use Rattle.certificate.specs.{AreDenoted}
use Rattle.planning.specs.{IsBestArrival}

-- ---- walks and journeys

module _ (n : NetworkLists) (network : IsNetwork n) (targets : List ℕ) where
  -- under each walk there is a journey
  journey_under : (h : Option HierarchyLists) → IsSoundIfGiven n h → (g : GraphMeaning) → IsInUse n h targets g → (steps : List WalkStep) (p t q u : ℕ) → IsWalk g p t steps q u
      → HasJourney n (node_under h p) t (node_under h q) u (word_from g p steps)
  journey_under None sound g in_use steps p t q u walk =
      subst (λ (x : GraphMeaning). IsWalk x p t steps q u → HasJourney n p t q u (word_from x p steps)) (sym in_use.is) (λ here. (
      let real = walks_are_journeys n network in_use.table in_use.keeps in_use.of p t steps q u here in
      record { steps = real.0; told = _; real = real.1; same_word = refl }
      )) walk
  journey_under (Some h) (rules, sound) g in_use steps p t q u walk =
      let is = subst (λ (x : GraphMeaning). IsPhaseGraph n h targets x) (sym in_use.is) (is_phase_graph n h targets network rules sound in_use.table in_use.keeps in_use.of in_use.marks in_use.are) in
      subst (λ x. IsWalk g x t steps q u → HasJourney n (node_of p) t (node_of q) u (word_from g x steps)) (whole p) (λ here. (
      let under = walks_have_journeys n h targets network sound g is steps (node_of p) (is_down p) t q u here in
      subst (λ x. HasJourney n (node_of p) t x u (word_from g (phase_node (node_of p) (is_down p)) steps)) (sym (half under.to under.down) ∙ ap node_of (sym under.is)) under.journey
      )) walk

-- ---- arrivals

module _ (n : NetworkLists) (network : IsNetwork n) (h : Option HierarchyLists) (sound : IsSoundIfGiven n h) (targets : List ℕ) (g : GraphMeaning) (in_use : IsInUse n h targets g)
    (asked : Asked) (l : LabelsMeaning) (denotes : AreDenoted asked.form l) (origins copies : List ℕ) (from : AreTheCopies n asked.from origins) (to : AreTheCopies n asked.to copies)
    (inside : (v : ℕ) → Contains copies v → Contains targets v) where
  -- for each journey that answers an accepted walk from the departure on arrives no later
  walk_of : (k : Route) (t : ℕ) → Answers n asked k t → (s : ℕ) × (s ≤ t) × ArrivesAt g l (starts_in h origins) (ends_in h copies) asked.depart s
  walk_of k t a =
      let w = walk_to_some n network h sound origins targets copies inside g in_use k.steps k.start k.at a.end t a.real.letters a.real.steps
      ((from.are k.start).1 a.starts_at_copy) ((to.are a.end).1 a.ends_at_copy) in
      let denoted : IsWordOf asked.form (collapse (word_from g w.start w.steps)) = subst (IsWordOf asked.form) (a.real.word_is ∙ sym w.same_word) a.denoted in (
        w.at,
        w.no_later,
        record {
          start = w.start;
          end = w.end;
          steps = wait k.at ∷ w.steps;
          starts_there = w.starts_there;
          ends_there = w.ends_there;
          walk = (a.not_before, w.walk);
          word = (denotes (word_from g w.start w.steps)).1 denoted;
        },
      )

  -- under each accepted walk there is a journey that answers and arrives then
  journey_of : (t : ℕ) → ArrivesAt g l (starts_in h origins) (ends_in h copies) asked.depart t → (j : Route) × Answers n asked j t
  journey_of t w =
      let under = journey_under n network targets h sound g in_use w.steps w.start asked.depart w.end t w.walk in (
        record { start = node_under h w.start; at = asked.depart; steps = under.steps },
        record {
          end = node_under h w.end;
          word = collapse under.told;
          starts_at_copy = (from.are (node_under h w.start)).0 (starts_under h origins w.start w.starts_there);
          not_before = omega arith;
          real = record { letters = under.told; steps = under.real; word_is = refl };
          ends_at_copy = (to.are (node_under h w.end)).0 (ends_under h copies w.end w.ends_there);
          denoted = subst (IsWordOf asked.form) (sym under.same_word) ((denotes (word_from g w.start w.steps)).0 w.word);
        },
      )

  pub best_arrival : (arrival : Option ℕ) → IsArrival g l (starts_in h origins) (ends_in h copies) asked.depart None arrival → IsBestArrival n asked arrival
  best_arrival None none = λ k t a. (let w = walk_of k t a in none w.0 tt w.2)
  best_arrival (Some first) (least, within) =
      let j = journey_of first least.reached in
      (j.0, record { arrival = first; answers = j.1; least = λ k t a. (let w = walk_of k t a in let early = least.least w.0 w.2 in let late = w.1 in omega arith) }, refl)
