-- Two automata with the same moves, whatever the order in which these stand, give a search one arrival and the same labels.
use Rattle.plan_base.proofs.Common.{◌≡◌, ℕ, ◌<◌, List, [], ◌∷◌, IsTrue, refl, sym, ap, subst, arith, Option, Some, None}
use Rattle.search_laws.specs.{GraphMeaning, LabelsMeaning, HasMove, Reads, Accepts, ArrivesAt, word_from}
use Rattle.product_search.specs.{Label, IsReachedAt, IsLeastAt, AreLeastLabels, IsArrival}
use Rattle.product_search.proofs.LabelLemmas.{labels_unique}

-- the other automaton has each move of the one, which leads to a state of it
pub record IsCovered (l m : LabelsMeaning) : Type 0 where
  pub states : l.states ≡ m.states
  pub starts : (q : ℕ) → l.is_start q ≡ m.is_start q
  pub moves : (q c r : ℕ) → q < l.states → HasMove l q c r → HasMove m q c r × (r < l.states)
  pub accepts : (q : ℕ) → q < l.states → l.accepts q ≡ m.accepts q

module _ (l m : LabelsMeaning) (covered : IsCovered l m) where
  reads_over : (word : List ℕ) (q r : ℕ) → q < l.states → Reads l q word r → Reads m q word r × (r < l.states)
  reads_over [] q r lt same = (same, subst (λ k. k < l.states) (sym same) lt)
  reads_over (c ∷ word) q r lt (p, move, more) =
      let there = covered.moves q c p lt move in
      let rest = reads_over word p r there.1 more in
      ((p, there.0, rest.0), rest.1)

  accepts_over : (word : List ℕ) → Accepts l word → Accepts m word
  accepts_over word (q, r, lt, start, reads, accepts) =
      let over = reads_over word q r lt reads in
      (q, r, subst (λ k. q < k) covered.states lt, subst IsTrue (covered.starts q) start, over.0, subst IsTrue (covered.accepts r over.1) accepts)

  module _ (g : GraphMeaning) (starts : List ℕ) (dep : ℕ) where
    pub reached_over : (v q t : ℕ) → IsReachedAt g l starts dep v q t → IsReachedAt g m starts dep v q t
    reached_over v q t at = record {
      start = at.start;
      first = at.first;
      steps = at.steps;
      starts_there = at.starts_there;
      is_state = subst (λ k. at.first < k) covered.states at.is_state;
      is_start = subst IsTrue (covered.starts at.first) at.is_start;
      walk = at.walk;
      reads = (reads_over (word_from g at.start at.steps) at.first q at.is_state at.reads).0;
    }

    pub arrives_over : (targets : List ℕ) (t : ℕ) → ArrivesAt g l starts targets dep t → ArrivesAt g m starts targets dep t
    arrives_over targets t at = record {
      start = at.start;
      end = at.end;
      steps = at.steps;
      starts_there = at.starts_there;
      ends_there = at.ends_there;
      walk = at.walk;
      word = accepts_over (word_from g at.start at.steps) at.word;
    }

module _ (l m : LabelsMeaning) (forth : IsCovered l m) (back : IsCovered m l) (g : GraphMeaning) (starts targets : List ℕ) (dep : ℕ) where
  least_over : (v q t : ℕ) → IsLeastAt g l starts dep v q t → IsLeastAt g m starts dep v q t
  least_over v q t at = record {
    reached = reached_over l m forth g starts dep v q t at.reached;
    least = λ u other. at.least u (reached_over m l back g starts dep v q u other);
  }

  least_back : (v q t : ℕ) → IsLeastAt g m starts dep v q t → IsLeastAt g l starts dep v q t
  least_back v q t at = record {
    reached = reached_over m l back g starts dep v q t at.reached;
    least = λ u other. at.least u (reached_over l m forth g starts dep v q u other);
  }

  pub arrival_over : (bound arrival : Option ℕ) → IsArrival g l starts targets dep bound arrival → IsArrival g m starts targets dep bound arrival
  arrival_over bound None none = λ t within at. none t within (arrives_over m l back g starts dep targets t at)
  arrival_over bound (Some a) (is, within) = (
    record {
      reached = arrives_over l m forth g starts dep targets a is.reached;
      least = λ t at. is.least t (arrives_over m l back g starts dep targets t at);
    },
    within,
  )

  pub labels_over : (bound arrival : Option ℕ) (list : List Label) → AreLeastLabels g l starts dep bound arrival list → AreLeastLabels g m starts dep bound arrival list
  labels_over bound arrival list are = record {
    ascending = are.ascending;
    least = λ k d lt. let is = are.least k d lt in (least_over _ _ _ is.0, is.1);
    complete = λ v q t least listed. are.complete v q t (least_back v q t least) listed;
  }

module _ (g : GraphMeaning) (l : LabelsMeaning) (starts targets : List ℕ) (dep : ℕ) where
  -- without a bound there is one arrival
  pub arrival_once : (one other : Option ℕ) → IsArrival g l starts targets dep None one → IsArrival g l starts targets dep None other → one ≡ other
  arrival_once None None none also = refl
  arrival_once None (Some b) none (is, within) = absurd (none b tt is.reached)
  arrival_once (Some a) None (is, within) none = absurd (none a tt is.reached)
  arrival_once (Some a) (Some b) (is, within) (also, in_time) =
      let below = is.least b also.reached in
      let above = also.least a is.reached in
      let same : a ≡ b = omega arith in
      ap Some same

  -- and one list of labels
  pub labels_once : (one other : Option ℕ) (xs ys : List Label) → IsArrival g l starts targets dep None one → IsArrival g l starts targets dep None other
      → AreLeastLabels g l starts dep None one xs → AreLeastLabels g l starts dep None other ys → xs ≡ ys
  labels_once one other xs ys first second are also =
      let same = arrival_once one other first second in
      labels_unique g l starts dep None other xs ys (subst (λ (a : Option ℕ). AreLeastLabels g l starts dep None a xs) same are) also
