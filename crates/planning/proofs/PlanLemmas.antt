-- A least arrival in the product of the graph in use and the automaton of an expression is that of a best journey.
use Rattle.plan_base.proofs.Common.{◌≡◌, ℕ, ◌^◌, ◌<◌, ◌≤◌, ◌∙◌, List, ◌∷◌, length, Option, Some, None, refl, sym, subst, arith, All, Contains, IfSome, slice_index_or, All-contains_itself}
use Rattle.search_laws.specs.{GraphMeaning, LabelsMeaning, Accepts, wait, ArrivesAt, collapse}
use Rattle.product_search.specs.{Label, Walk, IsArrival, IsWalkTo, IsWalkFor, last_time, NoneArrivesBefore}
use Rattle.product_search.proofs.HopLemmas.{reads_of_hops}
use Rattle.automaton.specs.{collapsed}
use Rattle.hierarchy.specs.{HierarchyLists}
use Rattle.phase_graph.specs.{IsInUse, starts_in, ends_in, node_under}
use Rattle.phase_graph.proofs.InUseLemmas.{starts_under, ends_under}
use Rattle.mode_expression.specs.{form_of, IsWordOf}
use Rattle.mode_network.specs.{NetworkLists.NetworkLists, nodes_of, IsNetwork, Route, AreSteps, IsCopy}
use Rattle.journey.specs.{Query, IsQuery, Asked, Answers, asked_by, IsPrintable, BoardsOnTime}
use Rattle.journey.proofs.CopyLemmas.{copy_in_range}
use Rattle.unpack.specs.{node_after, letters_in}
use Rattle.unpack.proofs.{TakenLemmas.has_time, UnpackLemmas.hops_in, UnpackLemmas.hops_end_in, UnpackLemmas.hops_letters_in}
use Rattle.certificate.specs.{FitsResult, ResultHolds, claimed_arrival, IsBestResult, Proves, claim_on}
use Rattle.certificate.proofs.{UniqueLemmas.journey_once, VerifyLemmas.best_result}
use Rattle.planning.specs.{IsCertifiable, IsPlan, both, route_of, inside.IsSearchSpace, inside.IsWalkOf, inside.IsJourneyUnder, inside.LiesUnder}

-- ---- numbers of the graph in use

module _ (n : NetworkLists) (h : Option HierarchyLists) (targets : List ℕ) (g : GraphMeaning) (in_use : IsInUse n h targets g) where
  -- a number over a node of the network is one of the graph
  low_over : (p : ℕ) → node_under h p < length (nodes_of n) → p < g.nodes
  low_over p low = by_graph h in_use low
    where
      by_graph : (o : Option HierarchyLists) → IsInUse n o targets g → node_under o p < length (nodes_of n) → p < g.nodes
      by_graph None is low = subst (λ (x : GraphMeaning). p < x.nodes) (sym is.is) low
      by_graph (Some k) is low = subst (λ (x : GraphMeaning). p < x.nodes) (sym is.is) (omega (arith, low))

  -- so are the numbers of starts
  pub starts_low : (origins : List ℕ) → All (λ v. v < length (nodes_of n)) origins → All (λ p. p < g.nodes) (starts_in h origins)
  starts_low origins low k d lt =
      let p = slice_index_or (starts_in h origins) k d in
      let (i, within, is) = starts_under h origins p (All-contains_itself (starts_in h origins) k d lt) in
      low_over p (subst (λ v. v < length (nodes_of n)) is (low i (node_under h p) within))

-- ---- what a search finds

module _ (n : NetworkLists) (network : IsNetwork n) (h : Option HierarchyLists) (q : Query) (g : GraphMeaning) (l : LabelsMeaning) (starts ends : List ℕ) (s : IsSearchSpace n h q g l starts ends) where
  -- a walk that leaves later is one that waits first
  waited : (d t : ℕ) → q.depart ≤ d → ArrivesAt g (collapsed l) starts ends d t → ArrivesAt g (collapsed l) starts ends q.depart t
  waited d t later a = record {
    start = a.start;
    end = a.end;
    steps = wait d ∷ a.steps;
    starts_there = a.starts_there;
    ends_there = a.ends_there;
    walk = (later, a.walk);
    word = a.word;
  }

  none_before : (arrival : Option ℕ) → IsArrival g (collapsed l) starts ends q.depart None arrival → NoneArrivesBefore g (collapsed l) starts ends q.depart arrival
  none_before None none d t later a = none t tt (waited d t later a)
  none_before (Some first) least d t later a = least.0.least t (waited d t later a)

  best_of : (result : Option (ℕ × Route)) → ResultHolds n (asked_by q) result → IsArrival g (collapsed l) starts ends q.depart None (claimed_arrival result) → IsBestResult n (asked_by q) result
  best_of result holds arrival =
      let over = subst (λ (ss : List ℕ). NoneArrivesBefore g (collapsed l) ss (ends_in h s.targets) q.depart (claimed_arrival result)) s.starts_are
      (subst (λ (es : List ℕ). NoneArrivesBefore g (collapsed l) starts es q.depart (claimed_arrival result)) s.ends_are (none_before (claimed_arrival result) arrival)) in
      best_result n network h s.sound (asked_by q) (collapsed l) s.origins s.targets s.denotes s.origin s.destination g s.in_use result holds over

  -- the journey under a walk that counts answers
  walk_answers : (a : ℕ) (w : Walk) (j : Route) → IsWalkTo g (collapsed l) starts ends q.depart a w → LiesUnder n h g w j → Answers n (asked_by q) j a
  walk_answers a w j is takes =
      let real = takes.unpacked in
      let at_end = hops_end_in g (collapsed l) w.hops.items w.node w.state w.at is.end is.final a is.hops in
      let letters = hops_letters_in g (collapsed l) w.hops.items w.node w.state w.at is.end is.final a is.hops in
      let reads = reads_of_hops g (collapsed l) w.hops.items w.node w.state w.at is.end is.final a is.hops in
      let accepted : Accepts (collapsed l) (letters_in g w.node w.hops.items) =
      subst (Accepts (collapsed l)) (sym letters) (w.state, is.final, is.is_state, is.is_start, reads, is.accepts) in
      let from = starts_under h s.origins w.node (subst (λ (ss : List ℕ). Contains ss w.node) s.starts_are is.starts_there) in
      let to = ends_under h s.targets is.end (subst (λ (es : List ℕ). Contains es is.end) s.ends_are is.ends_there) in
      let leaves = takes.at ∙ is.leaves in
      record {
        end = node_under h is.end;
        word = collapse real.letters;
        starts_at_copy = subst (IsCopy n q.from) (sym takes.start) ((s.origin.are (node_under h w.node)).0 from);
        not_before = omega (arith, leaves);
        real = record {
          letters = real.letters;
          steps = subst (λ x. AreSteps n j.start j.at j.steps (node_under h x) a real.letters) at_end.0
              (subst (λ y. AreSteps n j.start j.at j.steps (node_under h (node_after w.node w.hops.items)) y real.letters) at_end.1 real.real);
          word_is = refl;
        };
        ends_at_copy = (s.destination.are (node_under h is.end)).0 to;
        denoted = subst (IsWordOf (form_of q.expr)) (sym real.same_word) ((s.denotes (letters_in g w.node w.hops.items)).0 accepted);
      }

  -- and it can be printed
  walk_printable : (w : Walk) (j : Route) (a : ℕ) → Answers n (asked_by q) j a → q.depart < 2 ^ 64 → w.at ≡ q.depart → LiesUnder n h g w j → IsPrintable n j
  walk_printable w j a answers soon leaves takes = record {
    node = copy_in_range n network q.from j.start answers.starts_at_copy;
    times = record { at = (let same = takes.at ∙ leaves in omega arith); waits = λ k d lt. has_time (slice_index_or j.steps k d) (takes.soon k d lt) };
    taken = record { end = _; arrival = _; letters = _; are = takes.unpacked.real };
  }

  -- a walk that counts is one of the graph
  pub walk_is_of : (arrival : Option ℕ) (walk : Option Walk) → IsWalkFor g (collapsed l) starts ends q.depart arrival walk → IsWalkOf g walk
  walk_is_of None None is = tt
  walk_is_of None (Some w) is = absurd is
  walk_is_of (Some a) None is = absurd is
  walk_is_of (Some a) (Some w) is = hops_in g (collapsed l) w.hops.items w.node w.state w.at is.end is.final a is.hops

  -- a journey that was found, with its arrival: it is best, a certificate can hold it, and it arrives as the search said
  pub record IsFoundFor (arrival : Option ℕ) (j : Option Route) : Type 0 where
    pub plan : IsPlan n (asked_by q) (route_of (both arrival j))
    pub holds : ResultHolds n (asked_by q) (both arrival j)
    pub fits : FitsResult (both arrival j)
    pub same : claimed_arrival (both arrival j) ≡ arrival

  best_found : (a : ℕ) (w : Walk) (j : Route) → IsArrival g (collapsed l) starts ends q.depart None (Some a) → IsWalkTo g (collapsed l) starts ends q.depart a w
      → q.depart < 2 ^ 64 → a ≤ last_time q.depart → LiesUnder n h g w j → IsFoundFor (Some a) (Some j)
  best_found a w j least is soon in_time takes =
      let answers = walk_answers a w j is takes in
      let printable = walk_printable w j a answers soon is.leaves takes in
      let best = best_of (Some (a, j)) answers least in
      let boarded : BoardsOnTime n j = record { end = _; arrival = _; letters = _; are = takes.unpacked.boarded } in
      record { plan = (best.0, printable, boarded); holds = answers; fits = (omega arith, printable.times); same = refl }

  -- what a search found
  pub found_for : (arrival : Option ℕ) (walk : Option Walk) (j : Option Route) → IsArrival g (collapsed l) starts ends q.depart None arrival
      → IsWalkFor g (collapsed l) starts ends q.depart arrival walk → q.depart < 2 ^ 64 → IfSome arrival (λ a. a ≤ last_time q.depart)
      → IsJourneyUnder n h g walk j → IsFoundFor arrival j
  found_for None None None none is soon in_time under = record { plan = best_of None tt none; holds = tt; fits = tt; same = refl }
  found_for None None (Some j) none is soon in_time under = absurd under
  found_for None (Some w) j none is soon in_time under = absurd is
  found_for (Some a) None j least is soon in_time under = absurd is
  found_for (Some a) (Some w) None least is soon in_time under = absurd under
  found_for (Some a) (Some w) (Some j) least is soon in_time under = best_found a w j least is soon in_time under

  -- its journey alone
  same_route : (arrival : Option ℕ) (walk : Option Walk) (j : Option Route) → IsWalkFor g (collapsed l) starts ends q.depart arrival walk
      → IsJourneyUnder n h g walk j → route_of (both arrival j) ≡ j
  same_route None None None is under = refl
  same_route None None (Some j) is under = absurd under
  same_route None (Some w) j is under = absurd is
  same_route (Some a) None j is under = absurd is
  same_route (Some a) (Some w) None is under = absurd under
  same_route (Some a) (Some w) (Some j) is under = refl

  pub plan_for : (arrival : Option ℕ) (walk : Option Walk) (j : Option Route) → IsArrival g (collapsed l) starts ends q.depart None arrival
      → IsWalkFor g (collapsed l) starts ends q.depart arrival walk → q.depart < 2 ^ 64 → IfSome arrival (λ a. a ≤ last_time q.depart)
      → IsJourneyUnder n h g walk j → IsPlan n (asked_by q) j
  plan_for arrival walk j least is soon in_time under = subst (IsPlan n (asked_by q)) (same_route arrival walk j is under) (found_for arrival walk j least is soon in_time under).plan

-- what was found for a query proves what its certificate claims
pub plan_proves : (n : NetworkLists) → IsNetwork n → (h : Option HierarchyLists) (q : Query) → IsQuery n q.line q.from q.to q.depart (form_of q.expr) → (found : Option (ℕ × Route)) (labels : List Label)
    → IsPlan n (asked_by q) (route_of found) → IsCertifiable n h q found labels → Proves n (claim_on q h found labels)
plan_proves n network h q asks found labels plan cert = record { asked = asked_by q; asks = asks; best = best_of found plan (subst (λ (a : Asked). ResultHolds n a found) cert.asked cert.valid.holds) }
  where
    best_of : (found : Option (ℕ × Route)) → IsPlan n (asked_by q) (route_of found) → ResultHolds n (asked_by q) found → IsBestResult n (asked_by q) found
    best_of None none holds = none
    best_of (Some claimed) (best, printable, boarded) holds =
        let a = best.answers in
        (best, (journey_once n network (asked_by q) claimed.0 claimed.1 a.end best.arrival a.word holds.end claimed.0 holds.word a.real holds.real).1)
