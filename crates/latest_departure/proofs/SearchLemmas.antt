-- What a search for a deadline finds.
use Rattle.plan_base.proofs.Common.{ℕ, ◌-◌, ◌≤◌, List, Option, Some, None}
use Rattle.mode_expression.specs.{IsUsable}
use Rattle.search_laws.specs.{GraphMeaning, LabelsMeaning}
use Rattle.product_search.specs.{IsArrival}
use Rattle.mode_network.specs.{Step, Route, AreSteps}
use Rattle.journey.specs.{Asked}
use Rattle.automaton.specs.{collapsed}
use Rattle.latest_departure.specs.{LateSearch, IsBackwards, source_rows, mirrored, deadline, HasNoneInTime, IsLate, span, Mirroring, MirrorsAreJourneys, JourneysAreMirrors, reversed_meaning, IsSearchFor, BackLists.BackLists, inside.IsFirstIfAny, inside.leaving}
use Rattle.latest_departure.proofs.{LateLemmas.IsMirrorOf, LateLemmas.none_in_time, LateLemmas.late_found, MirrorWalks.steps_rise, ValidLemmas.reads_of, ValidLemmas.over_walks, ValidLemmas.over_journeys}

module _ (b : BackLists) (keeps : IsBackwards b) (q : Asked) (s : LateSearch) (is : IsSearchFor b q s) where
  -- what the search goes over
  abbrev pub over : Mirroring b.network q
  over = record {
    table = b.table;
    of = keeps.of;
    keeps = keeps.keeps;
    rows = source_rows b;
    sources = keeps.sources;
    reversed = reversed_meaning s.expressed.made.machine.labels.inner;
    reads = is.reads;
    starts = s.starts.items;
    targets = s.targets.items;
    ends = is.ends;
  }

  module _ (usable : IsUsable q.form) where
    abbrev g : GraphMeaning
    g = mirrored b (deadline q)

    abbrev l : LabelsMeaning
    l = collapsed (reversed_meaning s.expressed.made.machine.labels.inner)

    reads : IsMirrorOf q.form l
    reads = reads_of q usable (reversed_meaning s.expressed.made.machine.labels.inner) is.reads

    rises : (v t : ℕ) (steps : List Step) (w u : ℕ) (letters : List ℕ) → AreSteps b.network v t steps w u letters → t ≤ u
    rises = steps_rise b.network keeps.network b.table keeps.keeps keeps.of

    walks : MirrorsAreJourneys b.network g (deadline q)
    walks = over_walks b.network keeps.network q is.small over

    journeys : JourneysAreMirrors b.network g (deadline q)
    journeys = over_journeys b.network keeps.network q is.small over

    pub search_none : IsArrival g l s.starts.items s.targets.items 0 (Some (span b.network q)) None → HasNoneInTime b.network q
    search_none = none_in_time b.network q g l s.starts.items s.targets.items reads walks journeys is.ends.destination is.ends.origin is.not_before rises

    pub search_late : (moment : ℕ) → IsArrival g l s.starts.items s.targets.items 0 (Some (span b.network q)) (Some moment) → (found : Option Route)
        → IsFirstIfAny b.network (leaving q (deadline q - moment)) found → IsLate b.network q found
    search_late = late_found b.network q g l s.starts.items s.targets.items reads walks journeys is.ends.destination is.ends.origin is.not_before rises
