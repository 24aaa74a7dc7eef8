-- The arcs that a graph says can be taken, but for what was given before, and what they lead to.
use Rattle.plan_base.proofs.Common.{◌≡◌, ℕ, ◌<◌, ◌≤◌, ◌+◌, ◌^◌, inl, inr, Bool, true, false, not, nat_eq, List, Some, None, refl, sym, ◌∙◌, ap, subst, arith, ◌⊎◌, Option, All, Contains, IfSome, IsBitSet, bit_and, false≢true, eqb-true, cases_lt, cases_eq, All-weaker, All-contains}
use Rattle.search_laws.specs.{IsLetter, GraphMeaning, IsLawfulGraph, LabelsMeaning, AllAfter, Follows, is_open, ways_past, IsWay, RunRides, HasAsGoodOrGiven, StandsStill, AreMoving, GivenRuns, GraphArc, Way}
use Rattle.search_laws.proofs.WayLemmas.{ways_are, ways_there}
use Rattle.product_search.specs.{declared.row.Reached.Reached, declared.frontier.Scan.Scan, declared.frontier.Frontier.Frontier, inside.HasLeaving, inside.IsReachedBy, inside.IsByWays, inside.WayIsReached, inside.IsSuccessor, inside.ArcIsReached, inside.AreGivenReached}
use Rattle.product_search.proofs.GivenLemmas.{among_reached}

not_false : (b : Bool) → not b ≡ false → b ≡ true
not_false true h = refl
not_false false h = absurd (false≢true (sym h))

-- some of the arcs of s that can be taken at t, where delays are counted from the base
module _ (g : GraphMeaning) (l : LabelsMeaning) (base : ℕ) (s : Scan) (t letters first : ℕ) (at : t ≡ base + s.delay) (inside : first ≤ g.arcs s.node) (ways : List Way)
    (are : All (Contains (ways_past g s.node t letters first)) ways) where
  each_is : s.node < g.nodes → All (IsWay g s.node t) ways
  each_is node =
      All-weaker (Contains (ways_past g s.node t letters first)) (IsWay g s.node t)
      (λ way has. All-contains (IsWay g s.node t) (ways_past g s.node t letters first) way (ways_are g s.node t letters first node inside) has) ways are

  pub ways_letters : IsLawfulGraph g → s.node < g.nodes → All (λ (way : Way). IfSome way.arc.letter IsLetter) ways
  ways_letters lawful node =
      All-weaker (IsWay g s.node t) (λ (way : Way). IfSome way.arc.letter IsLetter)
      (λ way is. subst (λ (a : GraphArc). IfSome a.letter IsLetter) (sym is.is) (lawful.letter_in_range s.node way.place is.has)) ways (each_is node)

  pub ways_times : IsLawfulGraph g → s.node < g.nodes → All (λ (way : Way). base ≤ way.at) ways
  ways_times lawful node =
      All-weaker (IsWay g s.node t) (λ (way : Way). base ≤ way.at)
      (λ way is. omega (arith, at, lawful.not_before s.node way.place t way.at is.has is.arrives)) ways (each_is node)

  -- what they lead to are successors
  pub by_ways : s.node < g.nodes → (w r : ℕ) (x : Reached) → IsByWays l base s ways w r x → IsSuccessor g l base s w r x
  by_ways node w r x (way, among, by) =
      let is : IsWay g s.node t way = subst (IsWay g s.node t) among.2 (each_is node among.0 way among.1) in
      record {
        place = way.place;
        has = is.has;
        arrives = ap (g.arrive s.node way.place) (sym at) ∙ is.arrives ∙ ap Some (sym by.arrives);
        node = by.node ∙ ap (λ (a : GraphArc). a.to) is.is;
        state = subst (λ (a : GraphArc). Follows l s.state a.letter r) is.is by.state;
        as_made = by.as_made;
      }

module _ (g : GraphMeaning) (l : LabelsMeaning) (v q t letters : ℕ) (f : Frontier)
    (has : (j c : ℕ) → j < l.moves q → IsBitSet (l.move_at q j).letters c → IsBitSet letters c) where
  -- a letter outside the set leads nowhere
  none_after : (letter : Option ℕ) (P : ℕ → Type 0) → is_open letters letter ≡ false → AllAfter l q letter P
  none_after None P h = absurd (false≢true (sym h))
  none_after (Some c) P h = λ j lt by. absurd (has j c lt by (eqb-true (bit_and letters (2 ^ c)) 0 (not_false (nat_eq (bit_and letters (2 ^ c)) 0) h)))

  -- what a way that stands still leads to is the product state itself, which is reached
  stands_reached : (leaving : ℕ) → HasLeaving l q leaving → IsReachedBy f v q t → (way : Way) → StandsStill v t leaving way
      → WayIsReached l f q way
  stands_reached leaving leaves here way stands wanted =
      subst (λ (o : Option ℕ). AllAfter l q o (λ r. IsReachedBy f way.arc.to r way.at)) (sym stands.by)
      (λ j lt by. elim (cases_eq (l.move_at q j).to q) [
        | inl same ↦ rw (stands.to, stands.at, same) here
        | inr other ↦ absurd (stands.stays (leaves j stands.letter lt by other))
      ])

  module _ (leaving first : ℕ) (leaves : HasLeaving l q leaving) (here : IsReachedBy f v q t) (moving : List Way)
      (parts : AreMoving v t leaving (ways_past g v t letters first) moving) where
    -- what the arcs from a place on lead to is reached, if it is by these ways and by what was given before
    pub arcs_past_reached : (rides : RunRides) (given : GivenRuns) (ways : List Way) → All (HasAsGoodOrGiven rides q given ways) moving
        → AreGivenReached rides l f given → All (WayIsReached l f q) ways
        → (i : ℕ) → first ≤ i → i < g.arcs v → ArcIsReached g l f v q t i
    arcs_past_reached rides given ways covered before all i from lt u e wanted = by_letter (is_open letters (g.arc_at v i).letter) refl
      where
        way : Way
        way = record { place = i; arc = g.arc_at v i; at = u }

        moves : Contains moving way → WayIsReached l f q way
        moves has = elim (All-contains (HasAsGoodOrGiven rides q given ways) moving way covered has) [
          | inl found ↦ among_reached l f q ways way all found
          | inr was ↦ before q way was
        ]

        by_letter : (b : Bool) → is_open letters (g.arc_at v i).letter ≡ b → AllAfter l q (g.arc_at v i).letter (λ r. IsReachedBy f (g.arc_at v i).to r u)
        by_letter true h =
            let there : Contains (ways_past g v t letters first) way = ways_there g v t letters first i u from lt e h in
            elim (All-contains (λ (x : Way). Contains moving x ⊎ StandsStill v t leaving x) (ways_past g v t letters first) way parts.rest there) [
              | inl has ↦ moves has wanted
              | inr stands ↦ stands_reached leaving leaves here way stands wanted
            ]
        by_letter false h = none_after (g.arc_at v i).letter (λ r. IsReachedBy f (g.arc_at v i).to r u) h

-- what all arcs lead to is reached, if it is by those below a place and by those from there on
pub arcs_reached : (g : GraphMeaning) (l : LabelsMeaning) (f : Frontier) (v q t first : ℕ) → ((i : ℕ) → i < first → ArcIsReached g l f v q t i)
    → ((i : ℕ) → first ≤ i → i < g.arcs v → ArcIsReached g l f v q t i) → (i : ℕ) → i < g.arcs v → ArcIsReached g l f v q t i
arcs_reached g l f v q t first steady past i lt = elim (cases_lt i first) [
  | inl below ↦ steady i below
  | inr from ↦ past i from lt
]
