-- A walk for some targets ends before any descent, as one for no targets does, or entries lead down from where such a one is; and conversely.
use Rattle.plan_base.proofs.Common.{◌≡◌, ℕ, zero, suc, ◌+◌, ◌<◌, ◌≤◌, ◌⊎◌, inl, inr, Bool, true, false, cond, List, [], ◌∷◌, ◌++◌, Option, Some, refl, sym, ◌∙◌, ap, subst, subst₂, arith, lt-ltb, IsTrue, Contains, Contains-append_left}
use Rattle.plan_base.specs.{number_of_mode}
use Rattle.search_laws.specs.{GraphMeaning, LabelsMeaning, IsLawfulLabels, IsRoadLabels, HasMove, Reads, Follows, IsWalk, word_from, ArrivesAt}
use Rattle.search_laws.proofs.WalkLemmas.{split_read}
use Rattle.product_search.specs.{IsReachedAt}
use Rattle.mode_network.specs.{NetworkLists.NetworkLists, letter_at, IsNetwork}
use Rattle.mode_network.proofs.RuleLemmas.{letter_of, letter_is_road}
use Rattle.hierarchy.specs.{Hop, AreHops, total, IsDescent, HierarchyLists, height_in, is_contracted, IsContracted, HasEntry, IsHierarchy, IsSound}
use Rattle.hierarchy.proofs.{HeightLemmas.height_most, HopLemmas.hops_then, HopLemmas.hops_weaker, HopLemmas.total-append, PlaceLemmas.Contains-map, SoundLemmas.fits}
use Rattle.phase_graph.specs.{PhaseMove, rest, rise, fall, cross, stand, IsMarked, IsPhaseMove, AreMoves, HasMoves, phase_node, node_of, IsPhaseGraph, IsInUse, starts_in, target_numbers}
use Rattle.phase_graph.proofs.{ArcLemmas.moves_of, GraphLemmas.half, GraphMoves.is_phase_graph, InUseLemmas.ends_under, MoveLemmas.same_mode}
use Rattle.sweeps.proofs.EntryLemmas.{Contains-from_map}
use Rattle.rounds.proofs.MoveLemmas.{reached_on, reached_state}
use Rattle.descents.specs.Falls.{EntryLeadsDown, IsEndAt, DescendsBy}

-- ---- walks

module _ (n : NetworkLists) (h : HierarchyLists) (targets : List ℕ) (g : GraphMeaning) (is : IsPhaseGraph n h targets g) (l : LabelsMeaning) (origins : List ℕ) (dep : ℕ) where
  abbrev Reached : ℕ → ℕ → ℕ → Type 0
  Reached p q t = IsReachedAt g l (starts_in (Some h) origins) dep p q t

  -- a start is reached, in a start state
  reached_first : (v q : ℕ) → Contains origins v → q < l.states → IsTrue (l.is_start q) → Reached (phase_node v false) q dep
  reached_first v q there within is_start = record {
    start = phase_node v false;
    first = q;
    steps = [];
    starts_there = Contains-map (λ x. phase_node x false) origins v there;
    is_state = within;
    is_start = is_start;
    walk = (refl, refl);
    reads = refl;
  }

  -- what is known of the starts, and of where each move leads from what it is known of, is known of all that is reached
  module _ (Known : ℕ → Bool → ℕ → ℕ → Type 0) (begins : (v q : ℕ) → Contains origins v → q < l.states → IsTrue (l.is_start q) → Known v false dep q)
      (step : (move : PhaseMove) (v : ℕ) (down : Bool) (t q w : ℕ) (end : Bool) (u r : ℕ) (letter : Option ℕ) → Known v down t q → IsPhaseMove n h targets v down t move w end u letter
      → Follows l q letter r → Known w end u r) where
    along : (moves : List PhaseMove) (v : ℕ) (down : Bool) (t q w : ℕ) (end : Bool) (u r : ℕ) (word : List ℕ) → Known v down t q → AreMoves n h targets v down t moves w end u word → Reads l q word r
        → Known w end u r
    along [] v down t q w end u r word known (ew, ed, eu, el) reads =
        let same : r ≡ q = subst (λ x. Reads l q x r) el reads in
        rw (ew, ed, eu, same) known
    along (move ∷ moves) v down t q w end u r word known (v1, d1, t1, letter, more, done, walk, ew) reads =
        let split = split_read l letter q r more (subst (λ x. Reads l q x r) ew reads) in
        along moves v1 d1 t1 split.0 w end u r more (step move v down t q v1 d1 t1 split.0 letter known done split.1) walk split.2

    reached_known : (p q t : ℕ) → Reached p q t → (v : ℕ) × (down : Bool) × (p ≡ phase_node v down) × Known v down t q
    reached_known p q t reached =
        let from = Contains-from_map (λ v. phase_node v false) origins reached.start reached.starts_there in
        let word : List ℕ = word_from g reached.start reached.steps in
        let m = subst (λ x. IsWalk g x dep reached.steps p t → HasMoves n h targets from.0 false dep p t (word_from g x reached.steps)) from.2 (moves_of n h targets g is reached.steps from.0 false dep p t) reached.walk in
        (m.to, m.end, m.is, along m.moves from.0 false dep reached.first m.to m.end t q word (begins from.0 reached.first from.1 reached.is_state reached.is_start) m.walk reached.reads)

-- ---- moves and descents

-- where nothing leads down, a move is one for any targets
for_any : (n : NetworkLists) (h : HierarchyLists) (targets : List ℕ) (move : PhaseMove) (v : ℕ) (down : Bool) (t w : ℕ) (end : Bool) (u : ℕ) (letter : Option ℕ)
    → IsPhaseMove n h [] v down t move w end u letter → IsPhaseMove n h targets v down t move w end u letter
for_any n h targets (rest until) v down t w end u letter done = done
for_any n h targets (rise hop) v down t w end u letter done = done
for_any n h targets (fall hop) v down t w end u letter done = absurd (let marked = done.2 in omega (arith, (marked.ends_there).1))
for_any n h targets (cross step) v down t w end u letter done = done
for_any n h targets stand v down t w end u letter done = done

descends : (h : HierarchyLists) (hops : List Hop) (v end : ℕ) → AreHops (EntryLeadsDown h) v hops end → IsDescent (height_in h.order) v hops
descends h [] v end walk = tt
descends h (hop ∷ hops) v end ((entry, above), walk) = (above, descends h hops hop.to end walk)

module _ (n : NetworkLists) (h : HierarchyLists) (network : IsNetwork n) (rules : IsHierarchy h) (sound : IsSound n h) (l : LabelsMeaning) (lawful : IsLawfulLabels l) (road : IsRoadLabels l) (g k : GraphMeaning) (targets : List ℕ)
    (above : IsInUse n (Some h) [] g) (all : IsInUse n (Some h) targets k) (origins : List ℕ) (dep v : ℕ) (there : Contains targets v) where
  -- what walks for no targets reach, none of which go down, what walks for these reach, and when one arrives
  abbrev ReachedBefore : ℕ → ℕ → ℕ → Type 0
  ReachedBefore p q t = IsReachedAt g l (starts_in (Some h) origins) dep p q t

  abbrev ReachedByAll : ℕ → ℕ → ℕ → Type 0
  ReachedByAll p q t = IsReachedAt k l (starts_in (Some h) origins) dep p q t

  abbrev Arrives : ℕ → Type 0
  Arrives t = ArrivesAt k l (starts_in (Some h) origins) (target_numbers h v) dep t

  is_phases : (some : List ℕ) (x : GraphMeaning) → IsInUse n (Some h) some x → IsPhaseGraph n h some x
  is_phases some x in_use = subst (IsPhaseGraph n h some) (sym in_use.is) (is_phase_graph n h some network rules sound in_use.table in_use.keeps in_use.of in_use.marks in_use.are)

  -- ---- from all walks

  -- a node before any descent is reached in a state q, and from there entries lead down to w, which has the same mode, at t
  record HasTop (mode w t q : ℕ) : Type 0 where
    pub top : ℕ
    pub at : ℕ
    pub hops : List Hop
    pub letter : letter_at n.roads top ≡ Some mode
    pub here : letter_at n.roads w ≡ Some mode
    pub reached : ReachedBefore (phase_node top false) q at
    pub descent : AreHops (EntryLeadsDown h) top hops w
    pub arrives : t ≡ at + total hops

  -- w is reached before any descent, or there is such a node above it, and its letter can be read again in the state
  abbrev Known : ℕ → Bool → ℕ → ℕ → Type 0
  Known w down t q =
      ((down ≡ false) × ReachedBefore (phase_node w down) q t)
      ⊎ ((down ≡ true) × (mode : ℕ) × (s : ℕ) × (s ≤ t) × HasTop mode w s q × HasMove l q mode q)

  -- where one letter more is read on the way down, one may stand at the top meanwhile
  leads_on : (mode w s q : ℕ) → HasTop mode w s q → (more : List Hop) (x : ℕ) (end : Bool) (u r : ℕ) (letter : Option ℕ) → end ≡ true → AreHops (EntryLeadsDown h) w more x → letter_at n.roads x ≡ Some mode → letter ≡ Some mode
      → Follows l q letter r → s + total more ≤ u → Known x end u r
  leads_on mode w s q p more x end u r letter low walk here is follows late =
      let move : HasMove l q mode r = subst (λ o. Follows l q o r) is follows in
      inr (
        low,
        mode,
        s + total more,
        late,
        record {
          top = p.top;
          at = p.at;
          hops = p.hops ++ more;
          letter = p.letter;
          here = here;
          reached = reached_on n h [] g (is_phases [] g above) l (starts_in (Some h) origins) dep stand p.top false p.at q p.top false p.at r (Some mode) p.reached (mode, p.letter, refl, refl, refl, refl) move;
          descent = hops_then (EntryLeadsDown h) p.hops more p.top w x p.descent walk;
          arrives = omega (arith, p.arrives, total-append p.hops more);
        },
        road.again q mode r (reached_state g l lawful (starts_in (Some h) origins) dep (phase_node p.top false) q p.at p.reached) (letter_is_road n network p.top mode p.letter).1 move,
      )

  -- a move that does not lead down
  moved : (move : PhaseMove) (w : ℕ) (down : Bool) (t q x : ℕ) (end : Bool) (u r : ℕ) (letter : Option ℕ) → ReachedBefore (phase_node w down) q t
      → IsPhaseMove n h [] w down t move x end u letter → Follows l q letter r → end ≡ false → Known x end u r
  moved move w down t q x end u r letter reached done follows high = inl (high, reached_on n h [] g (is_phases [] g above) l (starts_in (Some h) origins) dep move w down t q x end u r letter reached done follows)

  step : (move : PhaseMove) (w : ℕ) (down : Bool) (t q x : ℕ) (end : Bool) (u r : ℕ) (letter : Option ℕ) → Known w down t q → IsPhaseMove n h targets w down t move x end u letter → Follows l q letter r
      → Known x end u r
  step (rest until) w down t q x end u r letter (inl (high, reached)) done follows = moved (rest until) w down t q x end u r letter reached done follows (done.2 ∙ high)
  step (rest until) w down t q x end u r letter (inr (low, mode, s, late, p, stays)) (le, ex, ed, eu, el) follows =
      let same : r ≡ q = subst (λ o. Follows l q o r) el follows in
      inr (ed ∙ low, mode, s, omega (arith, late, le, eu), rw (ex, same) p, rw same stays)
  step (rise hop) w down t q x end u r letter (inl (high, reached)) done follows = moved (rise hop) w down t q x end u r letter reached done follows done.4
  step (rise hop) w down t q x end u r letter (inr falls) done follows = absurd (let high = done.0 in let low = falls.0 in cc)
  step (fall hop) w down t q x end u r letter (inl (high, reached)) (entry, lower, marked, ex, ed, eu, el) follows =
      let mode = number_of_mode (fits n h sound w hop.to hop.weight entry).mode in
      let is : letter_at n.roads w ≡ Some mode = letter_of n.roads w _ (fits n h sound w hop.to hop.weight entry).from_mode in
      let p : HasTop mode w t q = record { top = w; at = t; hops = []; letter = is; here = is; reached = subst (λ d. ReachedBefore (phase_node w d) q t) high reached; descent = refl; arrives = omega arith } in
      leads_on mode w t q p (hop ∷ []) x end u r letter ed ((entry, lower), ex) (ap (letter_at n.roads) ex ∙ same_mode n h sound targets w hop.to hop.weight mode entry is) (el ∙ is) follows (omega (arith, eu))
  step (fall hop) w down t q x end u r letter (inr (low, mode, s, late, p, stays)) (entry, lower, marked, ex, ed, eu, el) follows =
      leads_on mode w s q p (hop ∷ []) x end u r letter ed ((entry, lower), ex) (ap (letter_at n.roads) ex ∙ same_mode n h sound targets w hop.to hop.weight mode entry p.here) (el ∙ p.here) follows (omega (arith, late, eu))
  step (cross way) w down t q x end u r letter (inl (high, reached)) done follows = moved (cross way) w down t q x end u r letter reached done follows done.4
  step (cross way) w down t q x end u r letter (inr falls) done follows = absurd (let high = done.0 in let low = falls.0 in cc)
  step stand w down t q x end u r letter (inl (high, reached)) done follows = moved stand w down t q x end u r letter reached done follows (done.3 ∙ high)
  step stand w down t q x end u r letter (inr (low, mode, s, late, p, stays)) (again, is, ex, ed, eu, el) follows =
      leads_on mode w s q p [] x end u r letter (ed ∙ low) ex (ap (letter_at n.roads) ex ∙ p.here) (el ∙ sym is ∙ p.here) follows (omega (arith, late, eu))

  only : (x : ℕ) → Contains (v ∷ []) x → x ≡ v
  only x (zero, lt, is) = sym is
  only x (suc i, lt, is) = absurd (omega (arith, lt))

  pub ends_or_descends : (t : ℕ) → ArrivesAt k l (starts_in (Some h) origins) (target_numbers h v) dep t → IsEndAt g l (starts_in (Some h) origins) dep v t ⊎ DescendsBy n h g l (starts_in (Some h) origins) dep v t
  ends_or_descends t walk =
      let (first, last, within, is_start, reads, accepts) = walk.word in
      let found = reached_known n h targets k (is_phases targets k all) l origins dep Known (λ w q from low is. inl (refl, reached_first n h [] g (is_phases [] g above) l origins dep w q from low is)) step walk.end last t
      (record { start = walk.start; first = first; steps = walk.steps; starts_there = walk.starts_there; is_state = within; is_start = is_start; walk = walk.walk; reads = reads }) in
      let at_v = only (node_of walk.end) (ends_under (Some h) (v ∷ []) walk.end (Contains-append_left (target_numbers h v) [] walk.end walk.ends_there)) in
      by_end last accepts found.0 found.1 (sym (half found.0 found.1) ∙ ap node_of (sym found.2) ∙ at_v) found.3
    where
      by_end : (q : ℕ) → IsTrue (l.accepts q) → (w : ℕ) (down : Bool) → w ≡ v → Known w down t q → IsEndAt g l (starts_in (Some h) origins) dep v t ⊎ DescendsBy n h g l (starts_in (Some h) origins) dep v t
      by_end q accepts w down same (inl (high, reached)) =
          inl (record { state = q; accepts = accepts; reached = subst₂ (λ x d. ReachedBefore (phase_node x d) q t) same high reached })
      by_end q accepts w down same (inr (low, mode, s, late, p, stays)) = inr (record {
        top = p.top;
        state = q;
        mode = mode;
        at = p.at;
        hops = p.hops;
        letter = p.letter;
        accepts = accepts;
        stays = stays;
        reached = p.reached;
        descent = subst (AreHops (EntryLeadsDown h) p.top p.hops) same p.descent;
        no_later = omega (arith, late, p.arrives);
      })

  -- ---- to all walks

  -- a walk for no targets is one for these
  reached_all : (p q t : ℕ) → ReachedBefore p q t → ReachedByAll p q t
  reached_all p q t reached =
      let is = is_phases targets k all in
      let found = reached_known n h [] g (is_phases [] g above) l origins dep (λ w down s r. ReachedByAll (phase_node w down) r s) (reached_first n h targets k is l origins dep)
      (λ move w down s r x end u r2 letter known done follows. reached_on n h targets k is l (starts_in (Some h) origins) dep move w down s r x end u r2 letter known (for_any n h targets move w down s x end u letter done) follows)
      p q t reached in
      subst (λ x. ReachedByAll x q t) (sym found.2) found.3

  numbered : (down : Bool) → (down ≡ true → IsContracted h.order v) → Contains (target_numbers h v) (phase_node v down)
  numbered true low = rw (lt-ltb _ _ (low refl)) (1, omega arith, refl)
  numbered false low = by_test (is_contracted h.order v) where
    by_test : (b : Bool) → Contains (cond b (phase_node v false ∷ phase_node v true ∷ []) (phase_node v false ∷ [])) (phase_node v false)
    by_test true = (0, omega arith, refl)
    by_test false = (0, omega arith, refl)

  -- what is reached and accepted at v arrives
  arrived : (down : Bool) (q t : ℕ) → IsTrue (l.accepts q) → (down ≡ true → IsContracted h.order v) → ReachedByAll (phase_node v down) q t → Arrives t
  arrived down q t accepts low reached = record {
    start = reached.start;
    end = phase_node v down;
    steps = reached.steps;
    starts_there = reached.starts_there;
    ends_there = numbered down low;
    walk = reached.walk;
    word = (reached.first, q, reached.is_state, reached.is_start, reached.reads, accepts);
  }

  pub end_arrives : (t : ℕ) → IsEndAt g l (starts_in (Some h) origins) dep v t → ArrivesAt k l (starts_in (Some h) origins) (target_numbers h v) dep t
  end_arrives t is = arrived false is.state t is.accepts (λ down. absurd cc) (reached_all (phase_node v false) is.state t is.reached)

  pub descent_arrives : (t : ℕ) (d : DescendsBy n h g l (starts_in (Some h) origins) dep v t) → ArrivesAt k l (starts_in (Some h) origins) (target_numbers h v) dep (d.at + total d.hops)
  descent_arrives t d = falls d.hops d.top false d.at d.descent d.letter (λ down. absurd cc) refl (reached_all (phase_node d.top false) d.state d.at d.reached)
    where
      falls : (hops : List Hop) (u : ℕ) (down : Bool) (s : ℕ) → AreHops (EntryLeadsDown h) u hops v → letter_at n.roads u ≡ Some d.mode → (down ≡ true → IsContracted h.order u) → d.at + total d.hops ≡ s + total hops
          → ReachedByAll (phase_node u down) d.state s → Arrives (d.at + total d.hops)
      falls [] u down s same letter low sum reached =
          let now : s ≡ d.at + total d.hops = omega (arith, sum) in
          arrived down d.state (d.at + total d.hops) d.accepts (λ is. subst (IsContracted h.order) (sym same) (low is)) (subst₂ (λ x y. ReachedByAll (phase_node x down) d.state y) (sym same) now reached)
      falls (hop ∷ hops) u down s ((entry, lower), walk) letter low sum reached =
          let marked : IsMarked h targets hop.to = record { end = v; hops = hops; ends_there = there; chain = hops_weaker (EntryLeadsDown h) (HasEntry h.entries) (λ a b w leads. leads.0) hops hop.to v walk; falls = descends h hops hop.to v walk } in
          let follows : Follows l d.state (letter_at n.roads u) d.state = subst (λ o. Follows l d.state o d.state) (sym letter) d.stays in
          falls hops hop.to true (s + hop.weight) walk (same_mode n h sound targets u hop.to hop.weight d.mode entry letter) (λ is. omega (arith, lower, height_most h.order u)) (omega (arith, sum))
          (reached_on n h targets k (is_phases targets k all) l (starts_in (Some h) origins) dep (fall hop) u down s d.state hop.to true (s + hop.weight) d.state (letter_at n.roads u) reached (entry, lower, marked, refl, refl, refl, refl) follows)
