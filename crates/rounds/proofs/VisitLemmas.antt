-- Links lower what is reached, and what was visited stays so.
use Rattle.plan_base.proofs.Common.{◌≡◌, ◌∙◌, ℕ, ◌+◌, ◌<◌, ◌≤◌, ◌⊎◌, inl, inr, Bool, true, false, ◌||◌, List, [], ◌++◌, length, get_or, get_or_default, Option, Some, None, Result, Ok, Err, refl, sym, ap, subst, subst₂, arith, Vec, Global, IfOk, IfSome, All, All-contains, All-weaker, Contains, cases_Bool, cases_eq, IsBitSet, bit_and, zero, suc, or_parts, below_more}
use Rattle.std.specs.declared.alloc.AllocError.{AllocError}
use Rattle.std.proofs.lemmas.Nat.{and_assoc}
use Rattle.search_laws.specs.{GraphMeaning, IsLetter, IsLawfulLabels, Follows, HasMove, Way, GivenRun, GivenRuns, HoldsRun, IsAsGood, HasAsGood, HasAsGoodOrGiven, AreFresh, AreMoving, AddsMoving, StandsStill, IsWay, is_open, ways_past, visit_by}
use Rattle.search_laws.proofs.{WayLemmas.ways_are, WayLemmas.ways_there, FreshLemmas.closed_unset}
use Rattle.product_search.specs.inside.{HasLeaving}
use Rattle.product_search.proofs.ReachLemmas.{reached_more}
use Rattle.phase_graph.specs.{meaning_in_use}
use Rattle.phase_graph.specs.InUseGraph.{lawful_in_use, steady_in_use, rides_in_use}
use Rattle.sweeps.specs.{time_at}
use Rattle.rounds.specs.inside.{cell, never, HaveShape, AreLowered, AreVisiting, AskedMeaning, Reaches, AreCrossingsReached, crossing_node, IsCrossedBy, IsRoadOrNone, IsVisited, AreVisited, WayReaches, WayIsCrossed, AreCrossedOn}
use Rattle.rounds.proofs.RowLemmas.{lowered_same, lowered_then, lowered_weaker, row_is, shape_stays}

abbrev pub Rows : Type 0
Rows = List (Vec ℕ Global)

abbrev pub IsAny : ℕ → ℕ → ℕ → Type 0
IsAny k i t = Unit {0}

-- a row that is found has all places, and what is found in it is the delay there
module _ (count width : ℕ) (rows : Rows) (k : ℕ) (row : Vec ℕ Global) (shape : HaveShape count width rows) (inside : k < count) (is : row ≡ get_or rows k row) where
  pub row_found : length row.items ≡ width
  row_found = ap length (sym (row_is rows k row (omega (arith, shape.count_is)) is)) ∙ shape.width_is k inside

  pub cell_found : (i delay : ℕ) → i < width → delay ≡ get_or row.items i delay → cell rows k i ≡ delay
  cell_found i delay lt at = ap (λ xs. time_at xs i) (row_is rows k row (omega (arith, shape.count_is)) is) ∙ get_or_default row.items i 0 delay (omega (arith, row_found)) ∙ sym at

-- a road letter of a set stays where all others are taken out
pub road_bit : (letters c : ℕ) → c < 3 → IsBitSet letters c → IsBitSet (bit_and letters 7) c
road_bit letters zero low set e = set (sym (and_assoc 1 letters 7) ∙ e)
road_bit letters (suc zero) low set e = set (sym (and_assoc 2 letters 7) ∙ e)
road_bit letters (suc (suc zero)) low set e = set (sym (and_assoc 4 letters 7) ∙ e)
road_bit letters (suc (suc (suc c))) low set e = omega (arith, low)

-- what holds where both hold
pub if_both : {P Q R : Bool → Type 0} (o : Option Bool) → IfSome o P → IfSome o Q → ((x : Bool) → P x → Q x → R x) → IfSome o R
if_both None p q both = tt
if_both (Some x) p q both = both x p q

module _ (a : AskedMeaning) where
  -- ---- what stays

  module _ (P : ℕ → ℕ → ℕ → Type 0) (old new : Rows) (lowered : AreLowered P old new) where
    pub crossed_stays : (p q t : ℕ) → IsCrossedBy a old p q t → IsCrossedBy a new p q t
    crossed_stays p q t (j, within, is, some, by) = (j, within, is, omega (arith, some, lowered.no_later q j), omega (arith, by, lowered.no_later q j))

    pub visited_stays : (q j delay : ℕ) → IsVisited a old q j delay → IsVisited a new q j delay
    visited_stays q j delay visited i u r past within arrives road follows =
        crossed_stays ((meaning_in_use a.rounds.graph).arc_at (crossing_node a j) i).to r u (visited i u r past within arrives road follows)

    pub way_stays : (q : ℕ) (way : Way) → WayIsCrossed a old q way → WayIsCrossed a new q way
    way_stays q way crossed r follows = crossed_stays way.arc.to r way.at (crossed r follows)

    -- delays that are lowered to what is reached are reached
    pub lowered_reached : ((k i t : ℕ) → k < a.labels.states → P k i t → Reaches a (crossing_node a i) k (a.dep + t)) → AreCrossingsReached a old → AreCrossingsReached a new
    lowered_reached by before = record {
      shape = shape_stays P a.labels.states (length a.rounds.crossings.items) old new lowered before.shape;
      reached = λ q j state crossing some. elim (lowered.by q j) [
        | inl same ↦ subst (λ d. Reaches a (crossing_node a j) q (a.dep + d)) (sym same) (before.reached q j state crossing (omega (arith, some, same)))
        | inr p ↦ by q j (cell new q j) state p
      ];
    }

  -- ---- ways that are taken one after another

  pub none_taken : (rows : Rows) (changed : Bool) → AreCrossingsReached a rows → AreCrossedOn a rows rows changed
  none_taken rows changed reached = record { reached = reached; lowered = lowered_same IsAny rows; same = λ e. refl }

  -- a delay at a crossing is lowered to that of a way in some states
  module _ (q : ℕ) (way : Way) (reaches : WayReaches a q way) (j delay : ℕ) (to : way.arc.to ≡ crossing_node a j) (at : way.at ≡ a.dep + delay) where
    abbrev pub IsTakenIn : List ℕ → ℕ → ℕ → ℕ → Type 0
    IsTakenIn states k i t = Contains states k × (i ≡ j) × (t ≡ delay)

    pub way_taken : (states : List ℕ) → All (Follows a.labels q way.arc.letter) states → (old new : Rows) (changed : Bool) → AreCrossingsReached a old
        → AreLowered (IsTakenIn states) old new → (changed ≡ false → new ≡ old) → AreCrossedOn a old new changed
    way_taken states follow old new changed reached lowered same = record {
      reached = lowered_reached (IsTakenIn states) old new lowered
          (λ k i t state p. rw (p.1, p.2, ← to, ← at) (reaches k (All-contains (Follows a.labels q way.arc.letter) states k follow p.0))) reached;
      lowered = lowered_weaker (IsTakenIn states) IsAny old new (λ k i t p. tt) lowered;
      same = same;
    }

  pub taken_then : (old mid new : Rows) (first then both : Bool) → (both ≡ false → (first ≡ false) × (then ≡ false)) → AreCrossedOn a old mid first → AreCrossedOn a mid new then → AreCrossedOn a old new both
  taken_then old mid new first then both parts before next = record {
    reached = next.reached;
    lowered = lowered_then IsAny old mid new before.lowered next.lowered;
    same = λ e. (let none = parts e in next.same none.1 ∙ before.same none.0);
  }

  -- a state after a letter, or after none, is one
  pub state_after : IsLawfulLabels a.labels → (letter : Option ℕ) (q r : ℕ) → q < a.labels.states → Follows a.labels q letter r → r < a.labels.states
  state_after lawful None q r state follows = omega (arith, state, follows)
  state_after lawful (Some c) q r state (i, move) = subst (λ s. s < a.labels.states) move.to (lawful.to_in_range q i state move.place)

  -- ---- a crossing is visited

  -- the number of a crossing that has a delay is reached, and by then it is
  module _ (old new : Rows) (lowered : AreLowered IsAny old new) (j q delay node : ℕ) (is : node ≡ crossing_node a j) (crossing : j < length a.rounds.crossings.items) (some : cell old q j < never) (at : cell old q j ≡ delay) where
    pub crossing_reached : q < a.labels.states → AreCrossingsReached a old → Reaches a node q (a.dep + delay)
    crossing_reached state reached = rw (is, ← at) (reached.reached q j state crossing some)

    pub crossing_crossed : IsCrossedBy a new node q (a.dep + delay)
    crossing_crossed = (j, crossing, is, omega (arith, some, lowered.no_later q j), omega (arith, at, lowered.no_later q j))

  -- what is as good as a way that leads to crossings reached by then is too
  as_good_crossed : (rows : Rows) (q : ℕ) (x way : Way) → IsAsGood x way → WayIsCrossed a rows q x → WayIsCrossed a rows q way
  as_good_crossed rows q x way good crossed r follows =
      let there = crossed r (subst (λ arc. Follows a.labels q arc.letter r) (sym good.arc) follows) in
      subst (λ arc. IsCrossedBy a rows arc.to r way.at) good.arc (there.0, there.1, there.2, there.3, omega (arith, there.4, good.soon))

  among_crossed : (rows : Rows) (q : ℕ) (ways : List Way) (way : Way) → All (WayIsCrossed a rows q) ways → HasAsGood ways way → WayIsCrossed a rows q way
  among_crossed rows q ways way all (x, has, good) = as_good_crossed rows q x way good (All-contains (WayIsCrossed a rows q) ways x all has)

  -- what a node is left by at t, but for its steady arcs and rides, leads to crossings that are reached
  abbrev IsVisitedAt : Rows → ℕ → ℕ → ℕ → Type 0
  IsVisitedAt rows q p t =
      (i u r : ℕ) → steady_in_use a.rounds.graph p ≤ i → i < (meaning_in_use a.rounds.graph).arcs p → (meaning_in_use a.rounds.graph).arrive p i t ≡ Some u
      → IsRoadOrNone ((meaning_in_use a.rounds.graph).arc_at p i).letter → Follows a.labels q ((meaning_in_use a.rounds.graph).arc_at p i).letter r → IsCrossedBy a rows ((meaning_in_use a.rounds.graph).arc_at p i).to r u

  -- the ways that were read are what is fresh of those that move
  pub record AreRead (v t q letters leaving : ℕ) (old new : GivenRuns) (read : List Way) : Type 0 where
    pub moving : List Way
    pub parts : AreMoving v t leaving (ways_past (meaning_in_use a.rounds.graph) v t letters (steady_in_use a.rounds.graph v)) moving
    pub fresh : AreFresh (rides_in_use a.rounds.graph) q old new moving read

  -- an empty list goes on with them alone
  pub read_alone : (v t q letters leaving : ℕ) (old new : GivenRuns) (before after read : List Way)
      → AddsMoving (rides_in_use a.rounds.graph) (visit_by v t q letters leaving) old new (ways_past (meaning_in_use a.rounds.graph) v t letters (steady_in_use a.rounds.graph v)) before after
      → before ≡ [] → read ≡ after → AreRead v t q letters leaving old new read
  read_alone v t q letters leaving old new before after read (moving, parts, (fresh, is, are)) empty same = record {
    moving = moving;
    parts = parts;
    fresh = subst (AreFresh (rides_in_use a.rounds.graph) q old new moving) (sym (same ∙ is ∙ ap (λ (xs : List Way). xs ++ fresh) empty)) are;
  }

  module _ (v t q letters leaving : ℕ) (old new : GivenRuns) (read : List Way) (are : AreRead v t q letters leaving old new read) where
    abbrev g : GraphMeaning
    g = meaning_in_use a.rounds.graph

    -- they are arcs of the node
    pub read_ways : v < g.nodes → steady_in_use a.rounds.graph v ≤ g.arcs v → All (IsWay g v t) read
    read_ways node within =
        let all = ways_past g v t letters (steady_in_use a.rounds.graph v) in
        All-weaker (Contains are.moving) (IsWay g v t)
        (λ way has. All-contains (IsWay g v t) all way (ways_are g v t letters (steady_in_use a.rounds.graph v) node within) (All-contains (Contains all) are.moving way are.parts.are has)) read are.fresh.are

    pub read_letters : All (IsWay g v t) read → All (λ way. IfSome way.arc.letter IsLetter) read
    read_letters ways = All-weaker (IsWay g v t) (λ way. IfSome way.arc.letter IsLetter)
        (λ way is. subst (λ arc. IfSome arc.letter IsLetter) (sym is.is) ((lawful_in_use a.rounds.graph).letter_in_range v way.place is.has)) read ways

    -- and lead from what is reached to what is
    pub read_reaches : All (IsWay g v t) read → Reaches a v q t → All (WayReaches a q) read
    read_reaches ways here = All-weaker (IsWay g v t) (WayReaches a q)
        (λ way is r follows. subst (λ arc. Reaches a arc.to r way.at) (sym is.is)
        (reached_more g a.labels a.starts a.dep v q t way.place way.at r here is.has is.arrives (subst (λ arc. Follows a.labels q arc.letter r) is.is follows))) read ways

    module _ (rows : Rows) (unheld : (run : GivenRun) → HoldsRun old run → ⊥) (taken : All (WayIsCrossed a rows q) read) where
      -- what moves leads to crossings that are reached
      moved : (way : Way) → Contains are.moving way → WayIsCrossed a rows q way
      moved way has r follows = elim (All-contains (HasAsGoodOrGiven (rides_in_use a.rounds.graph) q old read) are.moving way are.fresh.rest has) [
        | inl good ↦ among_crossed rows q read way taken good r follows
        | inr was ↦ absurd (unheld was.run was.known)
      ]

      module _ (j : ℕ) (is : v ≡ crossing_node a j) (here : IsCrossedBy a rows v q t) (has_roads : (c s : ℕ) → c < 3 → HasMove a.labels q c s → IsBitSet letters c) (has_leaving : HasLeaving a.labels q leaving) where
        -- a road letter of a move is asked for
        asked_for : (letter : Option ℕ) (r : ℕ) → IsRoadOrNone letter → Follows a.labels q letter r → is_open letters letter ≡ true
        asked_for None r road follows = refl
        asked_for (Some c) r road move = elim (cases_Bool (is_open letters (Some c))) [
          | inl asked ↦ asked
          | inr closed ↦ absurd (closed_unset letters c closed (has_roads c r road move))
        ]

        -- what stands still leads to where it is
        stood : (way : Way) (r : ℕ) → StandsStill v t leaving way → Follows a.labels q way.arc.letter r → IsCrossedBy a rows way.arc.to r way.at
        stood way r still follows = by_move (subst (λ letter. Follows a.labels q letter r) still.by follows)
          where
            by_move : HasMove a.labels q still.letter r → IsCrossedBy a rows way.arc.to r way.at
            by_move (i, move) = elim (cases_eq r q) [
              | inl same ↦ rw (still.to, still.at, same) here
              | inr other ↦ absurd (still.stays (has_leaving i still.letter move.place move.letter (λ e. other (sym move.to ∙ e))))
            ]

        -- so all arcs but the steady ones and rides lead to crossings that are reached
        arcs_crossed : IsVisitedAt rows q v t
        arcs_crossed i u r past within arrives road follows =
            let way : Way = record { place = i; arc = g.arc_at v i; at = u } in
            let among = ways_there g v t letters (steady_in_use a.rounds.graph v) i u past within arrives (asked_for (g.arc_at v i).letter r road follows) in
            elim (All-contains (λ x. Contains are.moving x ⊎ StandsStill v t leaving x) (ways_past g v t letters (steady_in_use a.rounds.graph v)) way are.parts.rest among) [
              | inl moves ↦ moved way moves r follows
              | inr still ↦ stood way r still follows
            ]

        pub read_visited : (delay : ℕ) → t ≡ a.dep + delay → IsVisited a rows q j delay
        read_visited delay at = subst₂ (λ p u. IsVisitedAt rows q p u) is at arcs_crossed

  -- ---- visits are noted

  -- a crossing that was reached after so long is noted as visited then
  module _ (old visits noted : Rows) (q j delay : ℕ) (state : q < a.labels.states) (crossing : j < length a.rounds.crossings.items) (at : cell old q j ≡ delay) (before : AreVisited a old visits)
      (mark : AreLowered (λ k i t. (k ≡ q) × (i ≡ j) × (t ≡ delay)) visits noted) where
    pub noted_here : cell noted q j ≤ delay → cell noted q j ≡ cell old q j
    noted_here here = elim (mark.by q j) [
      | inl same ↦ omega (arith, same, here, at, before.no_later q j state crossing)
      | inr p ↦ omega (arith, at, p.2)
    ]

    pub noted_visited : (new : Rows) → AreLowered IsAny old new → IsVisited a new q j delay → AreVisited a new noted
    noted_visited new lowered visited = record {
      no_later = λ k i state crossing. elim (mark.by k i) [
        | inl same ↦ omega (arith, same, before.no_later k i state crossing, lowered.no_later k i)
        | inr p ↦ (let now = p.2 in rw (p.0, p.1) (omega (arith, at, lowered.no_later q j, subst₂ (λ x y. cell noted x y ≡ delay) p.0 p.1 now)))
      ];
      visited = λ k i state crossing some. elim (mark.by k i) [
        | inl same ↦ subst (IsVisited a new k i) (sym same) (visited_stays IsAny old new lowered k i (cell visits k i) (before.visited k i state crossing (omega (arith, some, same))))
        | inr p ↦ subst (IsVisited a new k i) (sym p.2) (subst₂ (λ x y. IsVisited a new x y delay) (sym p.0) (sym p.1) visited)
      ];
    }

    -- so visits go on
    pub sooner_visiting : (new : Rows) (done : Result (Option Bool) AllocError) → HaveShape a.labels.states (length a.rounds.crossings.items) visits
        → IfOk done (λ o. IfSome o (AreCrossedOn a old new)) → IfOk done (λ o. IfSome o (λ c. IsVisited a new q j delay))
        → IfOk done (λ o. IfSome o (λ c. AreVisiting a new noted))
    sooner_visiting new (Ok (Some c)) shape taken visited = record {
      reached = taken.reached;
      shape = shape_stays (λ k i t. (k ≡ q) × (i ≡ j) × (t ≡ delay)) a.labels.states (length a.rounds.crossings.items) visits noted mark shape;
      visited = noted_visited new taken.lowered visited;
    }
    sooner_visiting new (Ok None) shape taken visited = tt
    sooner_visiting new (Err e) shape taken visited = tt

    -- the delay noted is that of the crossing, if that is as before
    pub sooner_here : (new : Rows) (done : Result (Option Bool) AllocError) → cell noted q j ≤ delay → IfOk done (λ o. IfSome o (AreCrossedOn a old new))
        → IfOk done (λ o. IfSome o (λ c. c ≡ false → cell new q j < never → cell noted q j ≡ cell new q j))
    sooner_here new (Ok (Some c)) here taken = λ same some. noted_here here ∙ sym (ap (λ rows. cell rows q j) (taken.same same))
    sooner_here new (Ok None) here taken = tt
    sooner_here new (Err e) here taken = tt

  -- crossings that are reached were visited as they are
  abbrev pub IsVisitedNow : Rows → Rows → ℕ → ℕ → Type 0
  IsVisitedNow rows visits q j = cell rows q j < never → cell visits q j ≡ cell rows q j

  -- where nothing changes they still are, and so is what comes to them
  module _ (old new visits noted : Rows) (changed crossed : Bool) (taken : AreCrossedOn a old new crossed) (lowered : AreLowered IsAny visits noted) (visited : AreVisited a new noted) where
    still_visited : (q j : ℕ) → crossed ≡ false → q < a.labels.states → j < length a.rounds.crossings.items → IsVisitedNow old visits q j → IsVisitedNow new noted q j
    still_visited q j none state crossing was some =
        let same : cell new q j ≡ cell old q j = ap (λ rows. cell rows q j) (taken.same none) in
        omega (arith, same, lowered.no_later q j, visited.no_later q j state crossing, was (omega (arith, some, same)))

    -- one crossing more in a state
    pub crossing_more : (q k : ℕ) → q < a.labels.states → k < length a.rounds.crossings.items → (changed ≡ false → (j : ℕ) → j < k → IsVisitedNow old visits q j) → (crossed ≡ false → IsVisitedNow new noted q k)
        → (changed || crossed) ≡ false → (j : ℕ) → j < k + 1 → IsVisitedNow new noted q j
    crossing_more q k state within before here none =
        let both = or_parts changed crossed none in
        below_more (IsVisitedNow new noted q) k (λ j lt. still_visited q j both.1 state (omega (arith, lt, within)) (before both.0 j lt)) (here both.1)

    -- one state more
    pub state_more : (k : ℕ) → k < a.labels.states → (changed ≡ false → (q j : ℕ) → q < k → j < length a.rounds.crossings.items → IsVisitedNow old visits q j)
        → (crossed ≡ false → (j : ℕ) → j < length a.rounds.crossings.items → IsVisitedNow new noted k j)
        → (changed || crossed) ≡ false → (q j : ℕ) → q < k + 1 → j < length a.rounds.crossings.items → IsVisitedNow new noted q j
    state_more k within before here none q j lt crossing =
        let both = or_parts changed crossed none in
        below_more (λ s. IsVisitedNow new noted s j) k (λ s less. still_visited s j both.1 (omega (arith, less, within)) crossing (before both.0 s j less crossing)) (here both.1 j crossing) q lt
