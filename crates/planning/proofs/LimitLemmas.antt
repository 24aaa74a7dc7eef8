-- The labels of a search, or that it has more than a limit, over each graph in use.
use Rattle.plan_base.proofs.Common.{ℕ, ◌≤◌, List, Option, None, Some, inl, inr, refl, arith, IfSome}
use Rattle.search_laws.specs.{GraphMeaning, LabelsMeaning}
use Rattle.product_search.specs.{Label, IsArrival, AreLeastLabels, HasLeastLabels, HasMoreLabels}
use Rattle.automaton.specs.{collapsed}
use Rattle.hierarchy.specs.{HierarchyLists}
use Rattle.mode_network.specs.{NetworkLists.NetworkLists, IsNetwork}
use Rattle.phase_graph.specs.{starts_in, ends_in}
use Rattle.phase_graph.proofs.InUseLemmas.{graphs_in_use_are_alike}
use Rattle.journey.specs.{Query, QueryFault, IsRefused, Asked, asked_by}
use Rattle.planning.specs.{AreTheLabels, HasLabelCount, IsLabelCount, told_count, SearchHasMore, SearchHasAtMost, IsLineWithin, IsWithinLabels, inside.IsSearchSpace}
use Rattle.planning.proofs.AnyGraph.{labels_over, more_over}

module _ (n : NetworkLists) (network : IsNetwork n) (h : Option HierarchyLists) (q : Query) (g : GraphMeaning) (l : LabelsMeaning) (starts ends : List ℕ)
    (is : IsSearchSpace n h q g l starts ends) where
  pub has_more : (most : ℕ) → HasMoreLabels g (collapsed l) starts ends q.depart None most → SearchHasMore n h (asked_by q) most
  has_more most more = record {
    automaton = l;
    positions = is.positions;
    origins = is.origins;
    targets = is.targets;
    origin = is.origin;
    destination = is.destination;
    graph = g;
    in_use = is.in_use;
    over = λ other in_use. more_over g other (graphs_in_use_are_alike n network h is.sound is.targets g other is.in_use in_use)
        l (starts_in h is.origins) (ends_in h is.targets) q.depart most (rw (is.starts_are, is.ends_are) at more);
  }

  pub has_labels : (arrival : Option ℕ) (labels : List Label) → IsArrival g (collapsed l) starts ends q.depart None arrival
      → AreLeastLabels g (collapsed l) starts q.depart None arrival labels → AreTheLabels n h (asked_by q) labels
  has_labels arrival labels first least = record {
    automaton = l;
    positions = is.positions;
    origins = is.origins;
    targets = is.targets;
    origin = is.origin;
    destination = is.destination;
    graph = g;
    in_use = is.in_use;
    arrival = arrival;
    over = λ other in_use. labels_over g other (graphs_in_use_are_alike n network h is.sound is.targets g other is.in_use in_use)
        l (starts_in h is.origins) (ends_in h is.targets) q.depart arrival labels
        (record { first = rw (is.starts_are, is.ends_are) at first; least = rw is.starts_are at least });
  }

  pub has_count : (arrival : Option ℕ) (count : ℕ) → IsArrival g (collapsed l) starts ends q.depart None arrival
      → HasLeastLabels g (collapsed l) starts q.depart None arrival count → HasLabelCount n h (asked_by q) count
  has_count arrival count first (labels, least, is) = (labels, has_labels arrival labels first least, is)

-- ---- how many labels a search has

pub told : (n : NetworkLists) (h : Option HierarchyLists) (q : Asked) (count : ℕ) → HasLabelCount n h q count → IsLabelCount n h q (told_count h count)
told n None q count has = refl
told n (Some h) q count has = has

pub at_most : (n : NetworkLists) (h : Option HierarchyLists) (q : Asked) (limit : Option ℕ) (count : ℕ) → HasLabelCount n h q count → IfSome limit (λ most. count ≤ most)
    → IfSome limit (SearchHasAtMost n h q)
at_most n h q None count has few = tt
at_most n h q (Some most) count (labels, are, is) few = (labels, are, omega (arith, is, few))

-- ---- what is right of a line whose search was not stopped

pub refused_within : (n : NetworkLists) (h : Option HierarchyLists) (limit : Option ℕ) (line : List ℕ) (fault : QueryFault) → IsRefused n line fault
    → IfSome limit (λ most. IsLineWithin n h most line)
refused_within n h None line fault refused = tt
refused_within n h (Some most) line fault refused = inl (fault, refused)

pub within_labels : (n : NetworkLists) (h : Option HierarchyLists) (limit : Option ℕ) (line : List ℕ) (IsStopped : ℕ → Type 0) (Is : Type 0)
    → IfSome limit (λ most. IsLineWithin n h most line) → Is → IsWithinLabels n h limit line IsStopped Is
within_labels n h None line IsStopped Is few is = is
within_labels n h (Some most) line IsStopped Is few is = inr (few, is)
