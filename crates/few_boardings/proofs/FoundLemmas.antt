-- What a search over the counting automaton finds is a least arrival with few rides.
use Rattle.plan_base.proofs.Common.{ℕ, ◌+◌, ◌^◌, ◌<◌, ◌≤◌, List, Option, Some, None, sym, subst, arith, ◌↔◌}
use Rattle.search_laws.specs.{LabelsMeaning, IsLawfulLabels, Accepts, ArrivesAt, IsLeast, collapse}
use Rattle.product_search.specs.{Walk, IsArrival, IsWalkTo, IsWalkFor}
use Rattle.automaton.specs.{collapsed, FitsCollapsed, collapsed_lawful, CollapsedPositionsAccept, written, IsPositionAutomaton}
use Rattle.plain_graph.specs.{plain_meaning, JourneysAreWalks}
use Rattle.mode_expression.specs.{Form.Form, IsUsable, IsWordOf}
use Rattle.timetable_arcs.specs.{TableLists}
use Rattle.mode_network.specs.{NetworkLists.NetworkLists, IsNetwork, Route}
use Rattle.journey.specs.{Asked, Answers, AreTheCopies}
use Rattle.unpack.specs.{node_after, arrival_after, letters_of}
use Rattle.unpack.proofs.TakenLemmas as taken
use Rattle.few_boardings.specs.{Side, AtMost, counted, transits, IsOnSide, rides, IsLeastBelow, IsFoundUnpacked, IsCountedFor, Found}
use Rattle.few_boardings.proofs.{CountedLemmas.accepts_counted, RideLemmas.letters_count}

-- the automaton accepts the words whose transit letters are on that side of the limit, and whose collapse the form denotes
abbrev pub IsCountingOf : Form → LabelsMeaning → Side → ℕ → Type 0
IsCountingOf form l side limit = (word : List ℕ) → Accepts l word ↔ (IsWordOf form (collapse word) × IsOnSide side limit (transits word))

pub counting_of : (form : Form) (inner : LabelsMeaning) (side : Side) (limit : ℕ) → CollapsedPositionsAccept → IsUsable form → IsLawfulLabels inner → FitsCollapsed inner
    → IsPositionAutomaton (written form) inner → IsCountingOf form (counted (collapsed inner) side limit) side limit
counting_of form inner side limit accept usable lawful fits is word =
    let denotes = accept form usable inner lawful is word in
    let counts = accepts_counted (collapsed inner) (collapsed_lawful inner lawful fits) side limit word in (
      λ accepts. let both = counts.0 accepts in (denotes.0 both.0, both.1),
      λ both. counts.1 (denotes.1 both.0, both.1),
    )

module _ (n : NetworkLists) (network : IsNetwork n) (table : TableLists) (q : Asked) (l : LabelsMeaning) (most : ℕ) (starts targets : List ℕ)
    (few : IsCountingOf q.form l AtMost most) (journeys : JourneysAreWalks n table) (from : AreTheCopies n q.from starts) (to : AreTheCopies n q.to targets) where
  -- each journey that answers with so few rides is an accepted walk
  arrives : (k : Route) (t : ℕ) → Answers n q k t → rides k ≤ most → ArrivesAt (plain_meaning n table) l starts targets q.depart t
  arrives k t a boards =
      let word = subst (IsWordOf q.form) a.real.word_is a.denoted in
      let count : transits a.real.letters ≤ most = omega (arith, letters_count n network k.start k.at k.steps a.end t a.real.letters a.real.steps, boards) in
      taken.arrives n table q l starts targets from to journeys k t a ((few a.real.letters).1 (word, count))

  none_below : IsArrival (plain_meaning n table) l starts targets q.depart None None → (k : Route) (u : ℕ) → rides k < most + 1 → Answers n q k u → ⊥
  none_below none k u below answers = none u tt (arrives k u answers (omega arith))

  least_found : most ≤ 8 → (a : ℕ) (w : Walk) (f : Found) → IsLeast (plain_meaning n table) l starts targets q.depart a
      → IsWalkTo (plain_meaning n table) l starts targets q.depart a w → q.depart < 2 ^ 64 → IsCountedFor n table a w f → IsLeastBelow n q (most + 1) (Some f)
  least_found small a w f least is soon counted =
      let j = f.row.journey in
      let takes = counted.takes in
      let letters = letters_of n table w.node w.hops.items in
      let both = (few letters).0 (taken.accepted n table q l starts targets from to a w j is takes) in
      let answered = taken.walk_answers n table q l starts targets from to a w j is takes both.0 in
      let count = letters_count n network j.start j.at j.steps (node_after w.node w.hops.items) (arrival_after w.at w.hops.items) letters takes.real in
      let fits : rides j ≤ most = let most_letters = both.1 in omega (arith, count, most_letters) in
      let boards = counted.boards in
      record {
        below = omega arith;
        boards = omega arith;
        answers = subst (λ t. Answers n q j t) (sym counted.arrives) answered;
        boarded = taken.walk_boards n table q l starts targets from to a w j is takes;
        least = λ k u below k_answers. subst (λ t. t ≤ u) (sym counted.arrives) (least.least u (arrives k u k_answers (omega arith)));
        printable = taken.walk_printable n table q l starts targets from to a w j is takes network soon answered.starts_at_copy;
      }

  -- what a search found, unpacked
  pub found_below : most ≤ 8 → (arrival : Option ℕ) (walk : Option Walk) (found : Option Found) → IsArrival (plain_meaning n table) l starts targets q.depart None arrival
      → IsWalkFor (plain_meaning n table) l starts targets q.depart arrival walk → q.depart < 2 ^ 64 → IsFoundUnpacked n table arrival walk found → IsLeastBelow n q (most + 1) found
  found_below small None walk found none is soon unpacked = subst (IsLeastBelow n q (most + 1)) (sym unpacked) (none_below none)
  found_below small (Some a) None found least is soon unpacked = absurd is
  found_below small (Some a) (Some w) None least is soon unpacked = absurd unpacked
  found_below small (Some a) (Some w) (Some f) least is soon unpacked = least_found small a w f least.0 is soon unpacked
