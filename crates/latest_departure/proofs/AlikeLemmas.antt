-- However a timetable sorts the runs into patterns, and however the rows list what leads to a node, the network in mirrored time is the same graph.
use Rattle.plan_base.proofs.Common.{◌≡◌, ℕ, ◌-◌, ◌<◌, ◌≤◌, ◌⊎◌, inl, inr, length, Option, Some, None, refl, sym, ap, ◌∙◌, subst, arith, option_map}
use Rattle.search_laws.specs.{LabelsMeaning, IsLawfulLabels, HasMove}
use Rattle.timetable_arcs.specs.{Instance, departs}
use Rattle.mode_network.specs.{Step, Wait, Link as TakeLink, Stand as StandStill, Ride as TakeRide, nodes_of, IsNetwork, IsStep, declared.steps.Step.TheVariants.Road as TakeRoad, NetworkLists.NetworkLists}
use Rattle.mode_network.proofs.RuleLemmas.{some_is}
use Rattle.plain_graph.specs.{PlainArc, Road, Link, Stand, Ride, IsNoWait}
use Rattle.automaton.specs.{written, collapsed}
use Rattle.automaton.proofs.SameLemmas.{AnswerAlike, positions_alike, collapsed_alike}
use Rattle.phase_graph.specs.{IsArcBy, Covers, CoverEachOther}
use Rattle.journey.specs.{Asked}
use Rattle.latest_departure.specs.{deadline, ReadsFromEnds, Mirroring, graph_of, IsReversed, arc_into, mirror_arc, begins, run_by}
use Rattle.latest_departure.proofs.{MirrorLaws.begins_rise, MirrorLaws.none_later, OrderLemmas.le_or_above, ReversedLemmas.to_below, ArcLemmas.IsInto, ArcLemmas.HasStep, ArcLemmas.all_into, ArcLemmas.place_into, ArcLemmas.run_is_by, ArcLemmas.arc_steps, ArcLemmas.step_back}

-- a step with a letter is no wait
no_wait : (n : NetworkLists) (v t : ℕ) (step : Step) (w u c : ℕ) → IsStep n v t step w u (Some c) → IsNoWait step
no_wait n v t (Wait until) w u c (later, same, now, none) = absurd (cc)
no_wait n v t (TakeRoad to) w u c is = tt
no_wait n v t (TakeLink to) w u c is = tt
no_wait n v t StandStill w u c is = tt
no_wait n v t (TakeRide trip day board alight) w u c is = tt

module _ (n : NetworkLists) (network : IsNetwork n) (q : Asked) (one other : Mirroring n q) where
  abbrev HasArcBy : ℕ → ℕ → ℕ → ℕ → Option ℕ → Type 0
  HasArcBy p time to u letter = (j : ℕ) × (a : ℕ) × IsArcBy (graph_of n q other) p time to u letter j a

  -- an arc that begins when it is taken later does so no later when it is taken earlier
  sooner : (p s t b : ℕ) (a : PlainArc) → IsInto n other.table p a → s ≤ t → begins other.table (deadline q) t a ≡ Some b
      → (u : ℕ) × (begins other.table (deadline q) s a ≡ Some u) × (u ≤ b)
  sooner p s t b a into le later = on_first (begins other.table (deadline q) s a) refl
    where
      on_first : (o : Option ℕ) → begins other.table (deadline q) s a ≡ o → (u : ℕ) × (begins other.table (deadline q) s a ≡ Some u) × (u ≤ b)
      on_first None none = let never = none_later n network other.table other.keeps other.of (deadline q) p s t a into le none in absurd (cc)
      on_first (Some u) some = (u, some, begins_rise n network other.table other.keeps other.of (deadline q) p s t u b a into le some later)

  -- an arc that is no ride is listed by each table
  listed : (p time u : ℕ) (a : PlainArc) → p < length (nodes_of n) → IsInto n other.table p a → begins other.table (deadline q) time a ≡ Some u
      → HasArcBy p time (mirror_arc n other.table p a).to u (mirror_arc n other.table p a).letter
  listed p time u a node into arrives =
      let place = place_into n other.table other.rows other.sources p a node into in (
        place.i,
        u,
        record {
          has = record { node = node; arc = place.within };
          to = ap (λ (x : PlainArc). (mirror_arc n other.table p x).to) place.is;
          tells = ap (λ (x : PlainArc). (mirror_arc n other.table p x).letter) place.is;
          arrives = ap (begins other.table (deadline q) time) place.is ∙ arrives;
          in_time = omega arith;
        },
      )

  -- a step that is over by the deadline less the time is an arc that begins no earlier
  stepped : (p time u to c : ℕ) → time ≤ deadline q → u ≤ deadline q → p < length (nodes_of n) → HasStep n network one.table one.keeps one.of to (deadline q - u) p (deadline q - time) (Some c)
      → HasArcBy p time to u (Some c)
  stepped p time u to c early le node has =
      let soon = has.soon in
      let back = step_back n network other.table other.keeps other.of (deadline q) to (deadline q - u) p has.at has.step (Some c) (no_wait n to (deadline q - u) has.step p has.at c has.is) has.is (omega arith) in
      let place = place_into n other.table other.rows other.sources p back.arc node back.into in
      let now = sooner p time (deadline q - has.at) back.moment back.arc back.into (omega arith) back.begins_then in
      let by = back.soon in
      let first = now.2 in (
        place.i,
        now.0,
        record {
          has = record { node = node; arc = place.within };
          to = ap (λ (x : PlainArc). (mirror_arc n other.table p x).to) place.is ∙ back.to;
          tells = ap (λ (x : PlainArc). (mirror_arc n other.table p x).letter) place.is ∙ back.same;
          arrives = ap (begins other.table (deadline q) time) place.is ∙ now.1;
          in_time = omega arith;
        },
      )

  covered : (p time u : ℕ) (a : PlainArc) → p < length (nodes_of n) → IsInto n one.table p a → begins one.table (deadline q) time a ≡ Some u
      → HasArcBy p time (mirror_arc n one.table p a).to u (mirror_arc n one.table p a).letter
  covered p time u (Road arc) node into arrives = listed p time u (Road arc) node into arrives
  covered p time u (Link link) node into arrives = listed p time u (Link link) node into arrives
  covered p time u Stand node into arrives = listed p time u Stand node into arrives
  covered p time u (Ride ride) node into arrives = on_run (run_by one.table (deadline q) time ride) refl arrives
    where
      on_run : (o : Option Instance) → run_by one.table (deadline q) time ride ≡ o → option_map (λ (run : Instance). deadline q - departs one.table run ride.board) o ≡ Some u
          → HasArcBy p time (mirror_arc n one.table p (Ride ride)).to u (mirror_arc n one.table p (Ride ride)).letter
      on_run None by none = absurd (cc)
      on_run (Some run) by some =
          let known = run_is_by n network one.table one.keeps one.of (deadline q) time ride into.alights.within run by in
          let is = some_is some in
          let le : u ≤ deadline q = omega arith in
          stepped p time u (mirror_arc n one.table p (Ride ride)).to _ known.early le node (arc_steps n network one.table one.keeps one.of (deadline q) p time u (Ride ride) into arrives le)

  pub covers : Covers (graph_of n q one) (graph_of n q other)
  covers p time i u has arrives =
      covered p time u (arc_into one.rows p i) has.node (all_into n one.table one.rows one.sources p has.node i Stand has.arc) arrives

pub mirrors_are_alike : (n : NetworkLists) → IsNetwork n → (q : Asked) (one other : Mirroring n q) → CoverEachOther (graph_of n q one) (graph_of n q other)
mirrors_are_alike n network q one other = record { nodes = refl; forth = covers n network q one other; back = covers n network q other one }

-- whichever automaton that reads the words of what is asked from their ends is taken, it answers alike
turned_alike : (l m r s : LabelsMeaning) → IsLawfulLabels r → IsLawfulLabels s → IsReversed l r → IsReversed m s → AnswerAlike l m → AnswerAlike r s
turned_alike l m r s law_r law_s one other alike = record {
  states = one.states ∙ (alike.states ∙ sym other.states);
  starts = λ q. by_place q (le_or_above l.states q);
  moves = λ q c p lt. (
    λ move. there q c p (within q lt) (subst (λ k. p < k) one.states (to_below r law_r q c p lt move)) move,
    λ move. back q c p (within q lt) (subst (λ k. p < k) (other.states ∙ sym alike.states) (to_below s law_s q c p (subst (λ k. q < k) (one.states ∙ (alike.states ∙ sym other.states)) lt) move)) move,
  );
  accepts = λ q lt. one.accepts q (within q lt) ∙ (alike.starts q ∙ sym (other.accepts q (over q (within q lt))));
}
  where
    within : (q : ℕ) → q < r.states → q < l.states
    within q lt = subst (λ k. q < k) one.states lt

    over : (q : ℕ) → q < l.states → q < m.states
    over q lt = subst (λ k. q < k) alike.states lt

    by_place : (q : ℕ) → (l.states ≤ q) ⊎ (q < l.states) → r.is_start q ≡ s.is_start q
    by_place q (inl past) = one.no_more q past ∙ sym (other.no_more q (subst (λ k. k ≤ q) alike.states past))
    by_place q (inr lt) = one.starts q lt ∙ (alike.accepts q lt ∙ sym (other.starts q (over q lt)))

    there : (q c p : ℕ) → q < l.states → p < l.states → HasMove r q c p → HasMove s q c p
    there q c p lt below move = (other.moves q c p (over q lt) (over p below)).1 ((alike.moves p c q below).0 ((one.moves q c p lt below).0 move))

    back : (q c p : ℕ) → q < l.states → p < l.states → HasMove s q c p → HasMove r q c p
    back q c p lt below move = (one.moves q c p lt below).1 ((alike.moves p c q below).1 ((other.moves q c p (over q lt) (over p below)).0 move))

pub readers_are_alike : (q : Asked) (r s : LabelsMeaning) → ReadsFromEnds q r → ReadsFromEnds q s → AnswerAlike (collapsed r) (collapsed s)
readers_are_alike q r s one other =
    collapsed_alike r s one.turned_lawful other.turned_lawful
    (turned_alike one.automaton other.automaton r s one.turned_lawful other.turned_lawful one.turned other.turned
    (positions_alike (written q.form) one.automaton other.automaton one.positions other.positions))
