-- A query has one list of labels, and so one number of them, within limits or without.
use Rattle.plan_base.proofs.Common.{◌≡◌, ℕ, inl, inr, List, length, Option, Some, None, sym, ap, ◌∙◌, subst, arith}
use Rattle.search_laws.specs.{GraphMeaning, LabelsMeaning}
use Rattle.product_search.specs.{Label, StopsAreDue}
use Rattle.automaton.specs.{written, IsPositionAutomaton, collapsed}
use Rattle.hierarchy.specs.{HierarchyLists}
use Rattle.phase_graph.specs.{IsInUse, starts_in, ends_in}
use Rattle.mode_network.specs.NetworkLists.{NetworkLists}
use Rattle.journey.specs.{AreTheCopies, Asked}
use Rattle.journey.proofs.CopyLemmas.{one_list_of_copies}
use Rattle.planning.specs.{AreTheLabels, AreLabelsOver, IsLabelCount, IsSettledCount, SearchHasMore, SearchHasAtMost, IsStoppedLine, IsLineWithin, IsSettledWithin}
use Rattle.promises.specs.{LabelsAreUnique}
use Rattle.promises.proofs.{SearchLemmas.IsCovered, SearchLemmas.arrival_over, SearchLemmas.labels_over, SearchLemmas.labels_once, LineLemmas.same_asked, LineLemmas.not_both, AutomatonLemmas.positions_covered, AutomatonLemmas.collapsed_covered}

module _ (n : NetworkLists) (h : Option HierarchyLists) (q : Asked) (labels : List Label) (are : AreTheLabels n h q labels)
    (automaton : LabelsMeaning) (positions : IsPositionAutomaton (written q.form) automaton) (origins targets : List ℕ)
    (origin : AreTheCopies n q.from origins) (destination : AreTheCopies n q.to targets) where
  covered : (l m : LabelsMeaning) → IsPositionAutomaton (written q.form) l → IsPositionAutomaton (written q.form) m → IsCovered (collapsed l) (collapsed m)
  covered l m is also = collapsed_covered l m (positions_covered (written q.form) l m is also)

  -- the labels are those over each graph in use, whichever position automaton of the expression is taken
  pub labels_for : (g : GraphMeaning) → IsInUse n h targets g → AreLabelsOver g automaton (starts_in h origins) (ends_in h targets) q.depart are.arrival labels
  labels_for g in_use =
      let from = one_list_of_copies n q.from are.origins origins are.origin origin in
      let to = one_list_of_copies n q.to are.targets targets are.destination destination in
      let there = are.over g (subst (λ ts. IsInUse n h ts g) (sym to) in_use) in
      let here : AreLabelsOver g are.automaton (starts_in h origins) (ends_in h targets) q.depart are.arrival labels =
      subst (λ ss. AreLabelsOver g are.automaton (starts_in h ss) (ends_in h targets) q.depart are.arrival labels) from
      (subst (λ ts. AreLabelsOver g are.automaton (starts_in h are.origins) (ends_in h ts) q.depart are.arrival labels) to there) in
      let forth = covered are.automaton automaton are.positions positions in
      let back = covered automaton are.automaton positions are.positions in
      record {
        first = arrival_over (collapsed are.automaton) (collapsed automaton) forth back g (starts_in h origins) (ends_in h targets) q.depart None are.arrival here.first;
        least = labels_over (collapsed are.automaton) (collapsed automaton) forth back g (starts_in h origins) (ends_in h targets) q.depart None are.arrival labels here.least;
      }

pub labels_are_unique : LabelsAreUnique
labels_are_unique n h q xs ys one other =
    let first = labels_for n h q xs one other.automaton other.positions other.origins other.targets other.origin other.destination other.graph other.in_use in
    let second = other.over other.graph other.in_use in
    labels_once other.graph (collapsed other.automaton) (starts_in h other.origins) (ends_in h other.targets) q.depart one.arrival other.arrival xs ys
    first.first second.first first.least second.least

-- ---- how many there are

module _ (n : NetworkLists) (h : Option HierarchyLists) where
  count_once : (o : Option HierarchyLists) (q : Asked) (a b : ℕ) → IsLabelCount n o q a → IsLabelCount n o q b → a ≡ b
  count_once None q a b e f = e ∙ sym f
  count_once (Some k) q a b (xs, one, e) (ys, other, f) = e ∙ (ap length (labels_are_unique n (Some k) q xs ys one other) ∙ sym f)

  settled_once : (line : List ℕ) (a b : ℕ) → IsSettledCount n h line a → IsSettledCount n h line b → a ≡ b
  settled_once line a b (inl (f, x, e)) (inl (g, y, d)) = e ∙ sym d
  settled_once line a b (inl (f, x, e)) (inr (q, y, d)) = absurd (not_both n line q f y x)
  settled_once line a b (inr (q, x, e)) (inl (g, y, d)) = absurd (not_both n line q g x y)
  settled_once line a b (inr (q, x, e)) (inr (r, y, d)) = count_once h r a b (subst (λ (k : Asked). IsLabelCount n h k a) (same_asked n line q r x y) e) d

  module _ (due : StopsAreDue) where
    -- a search does not have more labels than a limit and no more
    more_or_not : (q : Asked) (limit : ℕ) → SearchHasMore n h q limit → SearchHasAtMost n h q limit → ⊥
    more_or_not q limit more (labels, are, few) =
        let over = labels_for n h q labels are more.automaton more.positions more.origins more.targets more.origin more.destination more.graph more.in_use in
        let some = more.over more.graph more.in_use in
        let long = (due more.graph (collapsed more.automaton) (starts_in h more.origins) (ends_in h more.targets) q.depart None are.arrival labels limit over.first over.least).0 some in
        absurd (omega arith)

    stopped_or_not : (line : List ℕ) (limit : ℕ) → IsStoppedLine n h limit line → IsLineWithin n h limit line → ⊥
    stopped_or_not line limit (q, x, more) (inl (f, y)) = not_both n line q f x y
    stopped_or_not line limit (q, x, more) (inr (r, y, few)) =
        more_or_not r limit (subst (λ (k : Asked). SearchHasMore n h k limit) (same_asked n line q r x y) more) few

    pub settled_within_once : (limit : Option ℕ) (line : List ℕ) (a b : ℕ) → IsSettledWithin n h limit line a → IsSettledWithin n h limit line b → a ≡ b
    settled_within_once None line a b p q = settled_once line a b p q
    settled_within_once (Some most) line a b (inl (x, e)) (inl (y, d)) = e ∙ sym d
    settled_within_once (Some most) line a b (inl (x, e)) (inr (y, d)) = absurd (stopped_or_not line most x y)
    settled_within_once (Some most) line a b (inr (x, e)) (inl (y, d)) = absurd (stopped_or_not line most y x)
    settled_within_once (Some most) line a b (inr (x, e)) (inr (y, d)) = settled_once line a b e d
