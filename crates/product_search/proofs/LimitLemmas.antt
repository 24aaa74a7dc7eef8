-- A search has more labels than a limit exactly where the list of its labels is longer.
use Rattle.plan_base.proofs.Common.{ℕ, ◌+◌, ◌<◌, ◌≤◌, List, length, Some, None, inl, inr, sym, subst, arith, filter_map, Option, All, ◌↔◌, IsTrue, Contains, cases_lt, All-contains, length_permutation}
use Rattle.search_laws.specs.{GraphMeaning, IsLawfulGraph, LabelsMeaning, ArrivesAt}
use Rattle.product_search.specs.{Label, IsReachedAt, IsWithin, IsToList, AreLeastLabels, IsArrival, IsLabel, HasMoreLabels, StopsAreDue, declared.frontier.Scan.Scan, declared.frontier.Frontier.Frontier, inside.rows, inside.IsReachedBy, inside.IsSearching, inside.IsNoEndAt, inside.GoesTo, inside.HasMoreBefore, inside.label_of_row}
use Rattle.product_search.proofs.{LabelLemmas.SubList, LabelLemmas.no_longer, EndLemmas.goes_within, ListLemmas.all_ascending, ListLemmas.all_least, ListLemmas.within_down, ReachLemmas.IsDoneAt, ReachLemmas.complete, SortLemmas.sorted, SortLemmas.sorted_moves, SortLemmas.sorted_in_order}

-- ---- what is reached before a delay that nobody waits for, nor for one before it

module _ (g : GraphMeaning) (lawful : IsLawfulGraph g) (l : LabelsMeaning) (starts targets : List ℕ) (dep : ℕ) (bound : Option ℕ) (within : IsWithin bound dep)
    (f : Frontier) (searching : IsSearching g l starts dep (IsNoEndAt l targets) f) (end : Option Scan) (goes : GoesTo l targets dep bound f end)
    (most : ℕ) (more : HasMoreBefore f most) where
  done_before : (v q t : ℕ) → IsReachedAt g l starts dep v q t → t < f.base + more.until → (b : ℕ) × (b ≤ t) × IsDoneAt g l (IsNoEndAt l targets) f v q b
  done_before v q t reached lt = complete g lawful l starts dep (IsNoEndAt l targets) f searching t (inr (omega (arith, lt, more.wanted)))
      (λ k r known le waits. (let late = more.none k r known waits in omega (arith, lt, le, late))) v q reached

  known_before : (v q t : ℕ) → IsReachedAt g l starts dep v q t → t < f.base + more.until → IsReachedBy f v q t
  known_before v q t reached lt = (let is = done_before v q t reached lt in record {
    number = (is.2).number;
    row = (is.2).row;
    known = (is.2).known;
    node = (is.2).node;
    state = (is.2).state;
    by = omega (arith, is.1, (is.2).at);
  })

  -- no walk arrives by then
  before_ends : (t a : ℕ) → t < f.base + more.until → ArrivesAt g l starts targets dep a → t < a
  before_ends t a lt arrives = elim (cases_lt t a) [
    | inl before ↦ before
    | inr after ↦ (let word = arrives.word in
        let is = done_before arrives.end word.1 a (record {
          start = arrives.start;
          first = word.0;
          steps = arrives.steps;
          starts_there = arrives.starts_there;
          is_state = word.2;
          is_start = word.3;
          walk = arrives.walk;
          reads = word.4;
        }) (omega (arith, lt, after)) in
        absurd (((is.2).done).seen (subst (Contains targets) (sym (is.2).node) arrives.ends_there, subst (λ q. IsTrue (l.accepts q)) (sym (is.2).state) word.5)))
  ]

  pub more_before : HasMoreLabels g l starts targets dep bound most
  more_before =
      let found = filter_map (label_of_row f.base more.until) (rows f) in
      let least = all_least g l starts dep f searching.right searching.base searching.traced more.until known_before
      (sorted found) (sorted_in_order found) (sorted_moves found) in
      record {
        some = sorted found;
        ascending = all_ascending g l starts dep f searching.right searching.base searching.traced more.until known_before
            (sorted found) (sorted_in_order found) (sorted_moves found);
        are = λ k d lt. (let is = least k d lt in record {
          least = is.0;
          within = goes_within l targets dep bound f searching.base within end goes _ (omega (arith, is.1, more.wanted));
          before = λ a arrives. before_ends _ a is.1 arrives;
        });
        more = omega (arith, more.more, length_permutation found (sorted found) (sorted_moves found));
      }

-- ---- the labels of an answer

module _ (g : GraphMeaning) (l : LabelsMeaning) (starts targets : List ℕ) (dep : ℕ) (bound : Option ℕ) where
  label_to_list : (arrival : Option ℕ) (x : Label) → IsArrival g l starts targets dep bound arrival → IsLabel g l starts targets dep bound x → IsToList bound arrival x.at
  label_to_list None x none is = is.within
  label_to_list (Some a) x first is = is.before a first.0.reached

  within_to_list : (arrival : Option ℕ) (t : ℕ) → IsArrival g l starts targets dep bound arrival → IsToList bound arrival t → IsWithin bound t
  within_to_list None t none listed = listed
  within_to_list (Some a) t first listed = within_down bound t a (omega arith) first.1

  before_to_list : (arrival : Option ℕ) (t a : ℕ) → IsArrival g l starts targets dep bound arrival → IsToList bound arrival t → ArrivesAt g l starts targets dep a → t < a
  before_to_list None t a none listed arrives = elim (cases_lt t a) [
    | inl before ↦ before
    | inr after ↦ absurd (none a (within_down bound a t after listed) arrives)
  ]
  before_to_list (Some b) t a first listed arrives = (let le = first.0.least a arrives in omega arith)

  module _ (arrival : Option ℕ) (first : IsArrival g l starts targets dep bound arrival)
      (labels : List Label) (least : AreLeastLabels g l starts dep bound arrival labels) (most : ℕ) where
    each_listed : (some : List Label) → All (IsLabel g l starts targets dep bound) some → SubList some labels
    each_listed some are x has =
        let is = All-contains (IsLabel g l starts targets dep bound) some x are has in
        least.complete x.node x.state x.at is.least (label_to_list arrival x first is)

    longer : HasMoreLabels g l starts targets dep bound most → most < length labels
    longer h = omega (arith, h.more, no_longer h.some labels h.ascending least.ascending (each_listed h.some h.are))

    pub more_listed : most < length labels → HasMoreLabels g l starts targets dep bound most
    more_listed more = record {
      some = labels;
      ascending = least.ascending;
      are = λ k d lt. (let is = least.least k d lt in record {
        least = is.0;
        within = within_to_list arrival _ first is.1;
        before = λ a arrives. before_to_list arrival _ a first is.1 arrives;
      });
      more = more;
    }

    exactly : HasMoreLabels g l starts targets dep bound most ↔ (most < length labels)
    exactly = (longer, more_listed)

pub stops_are_due : StopsAreDue
stops_are_due g l starts targets dep bound arrival labels most first least = exactly g l starts targets dep bound arrival first labels least most
