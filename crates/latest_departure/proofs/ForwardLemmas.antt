-- What the search from a departure finds leaves then, and arrives first.
use Rattle.plan_base.proofs.Common.{ℕ, ◌^◌, ◌<◌, List, Option, Some, None, subst, ◌↔◌}
use Rattle.search_laws.specs.{LabelsMeaning, Accepts, ArrivesAt, collapse}
use Rattle.product_search.specs.{Walk, IsArrival, IsWalkFor}
use Rattle.plain_graph.specs.{plain_meaning, JourneysAreWalks}
use Rattle.mode_expression.specs.{Form.Form, IsWordOf}
use Rattle.timetable_arcs.specs.{TableLists}
use Rattle.mode_network.specs.{NetworkLists.NetworkLists, IsNetwork, Route}
use Rattle.journey.specs.{Asked, Answers, AreTheCopies}
use Rattle.unpack.specs.{letters_of}
use Rattle.unpack.proofs.TakenLemmas as taken
use Rattle.latest_departure.specs.inside.{IsFirstIfAny, IsJourneyUnpacked}

-- the automaton reads each word whose collapse the form denotes
abbrev pub IsReaderOf : Form → LabelsMeaning → Type 0
IsReaderOf form l = (word : List ℕ) → Accepts l word ↔ IsWordOf form (collapse word)

module _ (n : NetworkLists) (network : IsNetwork n) (table : TableLists) (q : Asked) (l : LabelsMeaning) (origins destinations : List ℕ)
    (reads : IsReaderOf q.form l) (journeys : JourneysAreWalks n table) (from : AreTheCopies n q.from origins) (to : AreTheCopies n q.to destinations) where
  arrives : (k : Route) (t : ℕ) → Answers n q k t → ArrivesAt (plain_meaning n table) l origins destinations q.depart t
  arrives k t a =
      taken.arrives n table q l origins destinations from to journeys k t a ((reads a.real.letters).1 (subst (IsWordOf q.form) a.real.word_is a.denoted))

  pub found_first : (arrival : Option ℕ) (walk : Option Walk) (found : Option Route) → IsArrival (plain_meaning n table) l origins destinations q.depart None arrival
      → IsWalkFor (plain_meaning n table) l origins destinations q.depart arrival walk → q.depart < 2 ^ 64 → IsJourneyUnpacked n table walk found → IsFirstIfAny n q found
  found_first None None None none is soon takes = λ k t answers. none t tt (arrives k t answers)
  found_first None None (Some j) none is soon takes = absurd takes
  found_first None (Some w) found none is soon takes = absurd is
  found_first (Some a) None found least is soon takes = absurd is
  found_first (Some a) (Some w) None least is soon takes = absurd takes
  found_first (Some a) (Some w) (Some j) least is soon takes =
      let accepted = taken.accepted n table q l origins destinations from to a w j is takes in
      let answers = taken.walk_answers n table q l origins destinations from to a w j is takes ((reads (letters_of n table w.node w.hops.items)).0 accepted) in
      record {
        leaves = taken.leaves n table q l origins destinations from to a w j is takes;
        best = record { arrival = a; answers = answers; least = λ k t k_answers. least.0.least t (arrives k t k_answers) };
        boarded = taken.walk_boards n table q l origins destinations from to a w j is takes;
        printable = taken.walk_printable n table q l origins destinations from to a w j is takes network soon answers.starts_at_copy;
      }
