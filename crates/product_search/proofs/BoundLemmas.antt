-- Where a list of labels is closed, no accepted walk arrives before the arrival that it goes with.
use Rattle.plan_base.proofs.Common.{◌≡◌, ℕ, zero, suc, ◌<◌, ◌≤◌, List, length, get_or, Some, None, inl, inr, subst, arith, Option, IsTrue, Contains, cases_lt}
use Rattle.search_laws.specs.{GraphMeaning, HasArc, IsLawfulGraph, LabelsMeaning, AllAfter, ArrivesAt, HoldsBelow}
use Rattle.search_laws.proofs.WalkLemmas.{walk_rises, walk_known}
use Rattle.product_search.specs.{Label, IsBefore, label_of, IsBelow, AreAscendingLabels, IsListedBy, IsInOrderAt, ArcIsListed, IsClosed, NoneArrivesBefore}
use Rattle.product_search.proofs.{CheckLemmas.label_total, StartLemmas.pairs_contain}

-- ---- order

-- each label is above the one before it, so it is above all before it
pub ascending_in_order : (g : GraphMeaning) (l : LabelsMeaning) (arrival : Option ℕ) (list : List Label) → HoldsBelow (length list) (IsInOrderAt g l arrival list) → AreAscendingLabels list
ascending_in_order g l arrival list in_order i zero d lt in_range = absurd (omega arith)
ascending_in_order g l arrival list in_order i (suc m) d lt in_range =
    let next : IsBelow (get_or list m d) (get_or list (suc m) d) = subst (λ k. IsBelow (get_or list k d) (get_or list (suc m) d)) (omega arith) ((in_order (suc m) in_range d).1 (omega arith)) in
    elim (cases_lt i m) [
      | inr ge ↦ (let e : m ≡ i = omega arith in subst (λ k. IsBelow (get_or list k d) (get_or list (suc m) d)) e next)
      | inl before ↦ label_total.trans (get_or list i d) (get_or list m d) (get_or list (suc m) d) (ascending_in_order g l arrival list in_order i m d before (omega arith)) next
    ]

-- ---- the bound

pub before_down : (arrival : Option ℕ) (s t : ℕ) → s ≤ t → IsBefore arrival t → IsBefore arrival s
before_down None s t le before = tt
before_down (Some a) s t le before = omega arith

module _ (g : GraphMeaning) (lawful : IsLawfulGraph g) (l : LabelsMeaning) (starts targets : List ℕ) (dep : ℕ) (arrival : Option ℕ) (list : List Label)
    (closed : IsClosed g l starts targets dep arrival list) where
  abbrev Known : ℕ → ℕ → ℕ → Type 0
  Known v q s = Contains list (label_of v q s)

  -- what holds of the label at each place holds of a listed one
  at_listed : (P : Label → Type 0) (x : Label) → Contains list x → ((k : ℕ) → k < length list → (d : Label) → P (get_or list k d)) → P x
  at_listed P x (k, lt, is) all = subst P is (all k lt x)

  known_closed : (t : ℕ) → IsBefore arrival t → (v q s i a : ℕ) → Known v q s → HasArc g v i → g.arrive v i s ≡ Some a → s ≤ t → a ≤ t
      → AllAfter l q (g.arc_at v i).letter (λ r. (b : ℕ) × (b ≤ a) × Known (g.arc_at v i).to r b)
  known_closed t before v q s i a known has e early by =
      at_listed (λ x. (i : ℕ) → i < g.arcs x.node → ArcIsListed g l arrival list x i) (label_of v q s) known closed.arcs_listed i has.arc a e (before_down arrival a t by before)

  -- no accepted walk arrives before the arrival
  pub none_before : (d t : ℕ) → dep ≤ d → ArrivesAt g l starts targets d t → IsBefore arrival t → ⊥
  none_before d t later arrives before = last listed_end where
    leaves : d ≤ t
    leaves = walk_rises g lawful arrives.steps arrives.start d arrives.end t arrives.walk

    listed_start : IsListedBy list arrives.start (arrives.word).0 dep
    listed_start = let pair = pairs_contain l starts arrives.start (arrives.word).0 arrives.starts_there (arrives.word).2 (arrives.word).3 in
        subst (λ p. IsListedBy list p.0 p.1 dep) pair.2 (closed.starts_listed pair.0 pair.1 (arrives.start, (arrives.word).0) (before_down arrival dep t (omega (arith, leaves)) before))

    listed_end : (b : ℕ) × (b ≤ t) × Known arrives.end (arrives.word).1 b
    listed_end = walk_known g lawful l t Known (known_closed t before) arrives.steps arrives.start (arrives.word).0 d arrives.end (arrives.word).1 arrives.walk (arrives.word).4
        (listed_start.0, omega (arith, listed_start.1), listed_start.2)

    last : (b : ℕ) × (b ≤ t) × Known arrives.end (arrives.word).1 b → ⊥
    last (b, le, known) = at_listed (λ x. Contains targets x.node → IsTrue (l.accepts x.state) → ⊥) (label_of arrives.end (arrives.word).1 b) known closed.no_end arrives.ends_there (arrives.word).5

pub bound : (g : GraphMeaning) → IsLawfulGraph g → (l : LabelsMeaning) (starts targets : List ℕ) (dep : ℕ) (arrival : Option ℕ) (list : List Label)
    → IsClosed g l starts targets dep arrival list → NoneArrivesBefore g l starts targets dep arrival
bound g lawful l starts targets dep None list closed d t later arrives = none_before g lawful l starts targets dep None list closed d t later arrives tt
bound g lawful l starts targets dep (Some a) list closed d t later arrives = elim (cases_lt t a) [
  | inr ge ↦ ge
  | inl lt ↦ absurd (none_before g lawful l starts targets dep (Some a) list closed d t later arrives lt)
]
