-- Nodes at which nothing moves but over steady arcs, and all others.
use denote.RawPtr.{null_ptr}
use Rattle.plan_base.proofs.Common.{[], ℕ, ◌*◌, ◌++◌, ◌+◌, ◌<◌, ◌∙◌, ◌∷◌, ◌≡◌, ◌≤◌, ◌⊎◌, All, All-contains, All-push, AllPass-from_list_all, ap, arith, cases_eq, Contains, Contains-append_left, Contains-push, false, get_or-range_with_len, IfSome, inl, inr, is_some, length, length-append, List, None, Option, range_with_len, refl, Some, subst, sym, true}
use Rattle.search_laws.specs.{GraphMeaning, IsLawfulGraph, IsLetter, Way, GivenRun, GivenRuns, HoldsRun, RunRides, HasAsGoodOrGiven, AddsMoving, StandsStill, visit_by, every_letter, is_open, ways_past}
use Rattle.search_laws.proofs.WayLemmas.{ways_there}
use Rattle.mode_network.specs.{NetworkLists.NetworkLists, letter_at, nodes_of}
use Rattle.hierarchy.specs.{HierarchyLists, IsCore}
use Rattle.phase_graph.specs.{phase_node, IsInUse}
use Rattle.rounds.specs.Crossings.{AreStanding, IsQuiet}

-- no state was given anything
abbrev pub no_runs : GivenRuns
no_runs = record {
  cells = record { ptr = null_ptr; len = 0; cap = 0; alloc = record { memory = record { seal = tt } }; items = []; ok = (refl, omega arith); small = omega arith };
  lost = 0;
}

pub none_held : (run : GivenRun) → HoldsRun no_runs run → ⊥
none_held run (k, lt, is) = omega arith

-- the set of all letters has each
every_open : (letter : Option ℕ) → IfSome letter IsLetter → is_open every_letter letter ≡ true
every_open None is = refl
every_open (Some c) is =
    let letters = range_with_len 0 14 in
    All-contains (λ k. is_open every_letter (Some k) ≡ true) letters c (AllPass-from_list_all (λ k. is_open every_letter (Some k)) letters refl) (c, is, get_or-range_with_len 0 14 c c is ∙ omega arith)

module _ (g : GraphMeaning) (lawful : IsLawfulGraph g) (rides : RunRides) (p first : ℕ) (node : p < g.nodes)
    (none : (t q : ℕ) (given : GivenRuns) → AddsMoving rides (visit_by p t q every_letter 0) given given (ways_past g p t every_letter first) [] [])
  where
    -- a way of which nothing is fresh stands still
    stands : (t : ℕ) (way : Way) → Contains (ways_past g p t every_letter first) way → StandsStill p t 0 way
    stands t way has =
        let (moving, parts, (fresh, is, are)) = none t 0 no_runs in
        elim (All-contains (λ x. Contains moving x ⊎ StandsStill p t 0 x) (ways_past g p t every_letter first) way parts.rest has) [
          | inr still ↦ still
          | inl moves ↦ elim (All-contains (HasAsGoodOrGiven rides 0 no_runs fresh) moving way are.rest moves) [
            | inl (x, there, good) ↦ (let empty : 0 ≡ length fresh = ap length is in absurd (omega (arith, there.1)))
            | inr was ↦ absurd (none_held was.run was.known)
          ]
        ]

    -- so all of them stand
    pub standing : AreStanding g p first
    standing t i u from within arrives =
        let opens = every_open (g.arc_at p i).letter (lawful.letter_in_range p i (record { node = node; arc = within })) in
        let still = stands t (record { place = i; arc = g.arc_at p i; at = u }) (ways_there g p t every_letter first i u from within arrives opens) in
        (still.to, still.at)

-- the graph has two numbers for each node
pub node_inside : (n : NetworkLists) (h : HierarchyLists) (targets : List ℕ) (g : GraphMeaning) → IsInUse n (Some h) targets g → g.nodes ≡ 2 * length (nodes_of n)
node_inside n h targets g is = ap (λ (m : GraphMeaning). m.nodes) is.is

is_letter : (o : Option ℕ) → is_some o ≡ true → (letter : ℕ) × (o ≡ Some letter)
is_letter None e = cc
is_letter (Some letter) e = (letter, refl)

-- such a road node is quiet
pub quiet : (n : NetworkLists) (g : GraphMeaning) (v first : ℕ) (rides : RunRides) → IsLawfulGraph g → is_some (letter_at n.roads v) ≡ true → v < length (nodes_of n) → g.nodes ≡ 2 * length (nodes_of n)
    → ((t q : ℕ) (given : GivenRuns) → AddsMoving rides (visit_by (phase_node v false) t q every_letter 0) given given (ways_past g (phase_node v false) t every_letter first) [] [])
    → IsQuiet n g v first
quiet n g v first rides lawful road inside nodes none =
    let (letter, is) = is_letter (letter_at n.roads v) road in
    record { letter = letter; road = is; standing = standing g lawful rides (phase_node v false) first (omega (arith, nodes)) none }

-- ---- all that are not quiet

-- core nodes, among which are all of the first so many that are not quiet
pub record AreCrossingsBelow (order : List ℕ) (Quiet : ℕ → Type 0) (count : ℕ) (crossings : List ℕ) : Type 0 where
  pub few : length crossings ≤ count
  pub core : All (IsCore order) crossings
  pub quiet : (v : ℕ) → v < count → (Contains crossings v → ⊥) → Quiet v

module _ (order : List ℕ) (Quiet : ℕ → Type 0) (v : ℕ) (crossings : List ℕ) (below : AreCrossingsBelow order Quiet v crossings) where
  pub crossing_passes : Quiet v → AreCrossingsBelow order Quiet (v + 1) crossings
  crossing_passes still = record {
    few = omega (arith, below.few);
    core = below.core;
    quiet = λ u lt none. elim (cases_eq u v) [
      | inl same ↦ subst Quiet (sym same) still
      | inr other ↦ below.quiet u (omega (arith, other)) none
    ];
  }

  pub crossing_more : IsCore order v → AreCrossingsBelow order Quiet (v + 1) (crossings ++ v ∷ [])
  crossing_more core = record {
    few = omega (arith, below.few, length-append crossings (v ∷ []));
    core = All-push (IsCore order) crossings v below.core core;
    quiet = λ u lt none. elim (cases_eq u v) [
      | inl same ↦ absurd (none (subst (Contains (crossings ++ v ∷ [])) (sym same) (Contains-push crossings v)))
      | inr other ↦ below.quiet u (omega (arith, other)) (λ there. none (Contains-append_left crossings (v ∷ []) u there))
    ];
  }
