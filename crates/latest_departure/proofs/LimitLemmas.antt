-- What a search for a deadline shows of the number of its labels, and what block is right then.
use Rattle.plan_base.proofs.Common.{◌≡◌, ℕ, ◌≤◌, inl, inr, List, Option, Some, None, subst, sym, IfSome}
use Rattle.product_search.specs.{IsArrival, HasLeastLabels, HasMoreLabels}
use Rattle.mode_network.specs.{NetworkLists.NetworkLists, Route}
use Rattle.journey.specs.{Asked, Asks, IsRefusedBlock, stopped_block}
use Rattle.automaton.specs.{collapsed}
use Rattle.latest_departure.specs.{LateSearch, IsBackwards, mirrored, IsAnswerBlock, deadline, IsLate, span, IsLateBlockWithin, LateSearchHasAtMost, LateSearchHasMore, reversed_meaning, IsSearchFor, BackLists.BackLists}
use Rattle.latest_departure.proofs.{SearchLemmas.over, TextLemmas.late_right}

module _ (b : BackLists) (keeps : IsBackwards b) (q : Asked) (s : LateSearch) (is : IsSearchFor b q s) where
  pub search_has_more : (limit : ℕ)
      → HasMoreLabels (mirrored b (deadline q)) (collapsed (reversed_meaning s.expressed.made.machine.labels.inner)) s.starts.items s.targets.items 0 (Some (span b.network q)) limit
      → LateSearchHasMore b.network q limit
  search_has_more limit more = record { over = over b keeps q s is; more = more }

  pub search_has_at_most : (arrival : Option ℕ) (count : ℕ)
      → IsArrival (mirrored b (deadline q)) (collapsed (reversed_meaning s.expressed.made.machine.labels.inner)) s.starts.items s.targets.items 0 (Some (span b.network q)) arrival
      → HasLeastLabels (mirrored b (deadline q)) (collapsed (reversed_meaning s.expressed.made.machine.labels.inner)) s.starts.items 0 (Some (span b.network q)) arrival count
      → (limit : Option ℕ) → IfSome limit (λ most. count ≤ most) → IfSome limit (LateSearchHasAtMost b.network q)
  search_has_at_most arrival count first has None few = tt
  search_has_at_most arrival count first (list, least, counts) (Some limit) few =
      (list, record { over = over b keeps q s is; arrival = arrival; first = first; least = least }, subst (λ k. k ≤ limit) counts few)

module _ (n : NetworkLists) (line : List ℕ) where
  pub late_within : (q : Asked) → Asks n line q → (found : Option Route) → IsLate n q found → (limit : Option ℕ) → IfSome limit (LateSearchHasAtMost n q)
      → (block : List ℕ) → IsAnswerBlock n line found block → IsLateBlockWithin n limit line block
  late_within q asks found late None few block tells = late_right n line q asks found late block tells
  late_within q asks found late (Some most) few block tells = inr (inr (q, asks, few), late_right n line q asks found late block tells)

  pub late_stopped : (q : Asked) → Asks n line q → (limit : Option ℕ) (most : ℕ) → limit ≡ Some most → LateSearchHasMore n q most
      → (block : List ℕ) → block ≡ stopped_block line most → IsLateBlockWithin n limit line block
  late_stopped q asks limit most is more block told =
      subst (λ (l : Option ℕ). IsLateBlockWithin n l line block) (sym is) (inl ((q, asks, more), told))

  pub late_refused : (block : List ℕ) → IsRefusedBlock n line block → (limit : Option ℕ) → IsLateBlockWithin n limit line block
  late_refused block refused None = inl refused
  late_refused block refused (Some most) = inr (inl (refused.fault, refused.refused), inl refused)
