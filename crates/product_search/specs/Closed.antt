-- When a list of labels is closed: then no accepted walk reaches a target before the arrival that it goes with.
use Rattle.std.specs.Prelude.{◌≡◌, ℕ, zero, suc, ◌-◌, ◌<◌, ◌≤◌, ◌⊎◌, List, [], ◌∷◌, ◌++◌, map, length, slice_index_or, Option, Some, MatchOption, IsTrue, Contains, All, if◌then◌else◌}
use Rattle.search_laws.specs.{HoldsBelow, FailsFirstAt, GraphMeaning, LabelsMeaning, AllAfter, ArrivesAt}
use Rattle.product_search.specs.{declared.label.Label.Label, Reach.IsBefore, Listed.label_of, Listed.IsBelow}
pub use Rattle.product_search.specs.{declared.verdict.LabelVerdict.LabelVerdict, declared.verdict.LabelVerdict.TheVariants.Closed, declared.verdict.LabelVerdict.TheVariants.Open}

-- the product state has a label that is no later than t
abbrev pub IsListedBy : List Label → ℕ → ℕ → ℕ → Type 0
IsListedBy list v q t = (at : ℕ) × (at ≤ t) × Contains list (label_of v q at)

-- ---- clause 6, at a label: in range, before the arrival, and above the label before it

abbrev pub IsInRange : GraphMeaning → LabelsMeaning → Option ℕ → Label → Type 0
IsInRange g l arrival x = (x.node < g.nodes) × (x.state < l.states) × IsBefore arrival x.at

abbrev pub IsInOrderAt : GraphMeaning → LabelsMeaning → Option ℕ → List Label → ℕ → Type 0
IsInOrderAt g l arrival list k = (d : Label)
    → IsInRange g l arrival (slice_index_or list k d) × (0 < k → IsBelow (slice_index_or list (k - 1) d) (slice_index_or list k d))

-- ---- clause 7, at a pair of a start and a start state: listed by the departure, if that is before the arrival

-- the start states below n, in order
abbrev pub start_states : LabelsMeaning → ℕ → List ℕ
start_states l zero = []
start_states l (suc n) = start_states l n ++ (if l.is_start n then n ∷ [] else [])

abbrev pub pairs_at : ℕ → List ℕ → List (ℕ × ℕ)
pairs_at v states = map (λ q. (v, q)) states

-- the pairs of a start and a start state, by place in the list of starts and then by state
abbrev pub start_pairs : LabelsMeaning → List ℕ → List (ℕ × ℕ)
start_pairs l [] = []
start_pairs l (v ∷ starts) = pairs_at v (start_states l l.states) ++ start_pairs l starts

abbrev pub IsPairListed : List Label → ℕ → ℕ × ℕ → Type 0
IsPairListed list dep p = IsListedBy list p.0 p.1 dep

abbrev pub StartIsListedAt : LabelsMeaning → List ℕ → ℕ → Option ℕ → List Label → ℕ → Type 0
StartIsListedAt l starts dep arrival list k = (d : ℕ × ℕ) → IsBefore arrival dep → IsPairListed list dep (slice_index_or (start_pairs l starts) k d)

-- ---- clause 8, at a label: not at a target in an accepting state

abbrev pub IsNoEnd : LabelsMeaning → List ℕ → Label → Type 0
IsNoEnd l targets x = Contains targets x.node → IsTrue (l.accepts x.state) → ⊥

abbrev pub IsNoEndAt : LabelsMeaning → List ℕ → List Label → ℕ → Type 0
IsNoEndAt l targets list k = (d : Label) → IsNoEnd l targets (slice_index_or list k d)

-- ---- clause 9, at a label: what its arcs lead to before the arrival is listed by then

abbrev pub ArcIsListed : GraphMeaning → LabelsMeaning → Option ℕ → List Label → Label → ℕ → Type 0
ArcIsListed g l arrival list x i = (u : ℕ) → g.arrive x.node i x.at ≡ Some u → IsBefore arrival u
    → AllAfter l x.state (g.arc_at x.node i).letter (λ r. IsListedBy list (g.arc_at x.node i).to r u)

abbrev pub ArcsAreListed : GraphMeaning → LabelsMeaning → Option ℕ → List Label → Label → Type 0
ArcsAreListed g l arrival list x = (i : ℕ) → i < g.arcs x.node → ArcIsListed g l arrival list x i

abbrev pub ArcsAreListedAt : GraphMeaning → LabelsMeaning → Option ℕ → List Label → ℕ → Type 0
ArcsAreListedAt g l arrival list k = (d : Label) → ArcsAreListed g l arrival list (slice_index_or list k d)

-- ---- all four

pub record IsClosed (g : GraphMeaning) (l : LabelsMeaning) (starts targets : List ℕ) (dep : ℕ) (arrival : Option ℕ) (list : List Label) : Type 0 where
  pub in_order : HoldsBelow (length list) (IsInOrderAt g l arrival list)
  pub starts_listed : HoldsBelow (length (start_pairs l starts)) (StartIsListedAt l starts dep arrival list)
  pub no_end : HoldsBelow (length list) (IsNoEndAt l targets list)
  pub arcs_listed : HoldsBelow (length list) (ArcsAreListedAt g l arrival list)

-- The list is closed; or the clause is the least that fails, at its least place.
abbrev pub IsVerdict : GraphMeaning → LabelsMeaning → List ℕ → List ℕ → ℕ → Option ℕ → List Label → LabelVerdict → Type 0
IsVerdict g l starts targets dep arrival list Closed = IsClosed g l starts targets dep arrival list
IsVerdict g l starts targets dep arrival list (Open clause at) =
    ((clause ≡ 6) × FailsFirstAt (length list) (IsInOrderAt g l arrival list) at)
    ⊎ ((clause ≡ 7) × HoldsBelow (length list) (IsInOrderAt g l arrival list)
    × FailsFirstAt (length (start_pairs l starts)) (StartIsListedAt l starts dep arrival list) at)
    ⊎ ((clause ≡ 8) × HoldsBelow (length list) (IsInOrderAt g l arrival list)
    × HoldsBelow (length (start_pairs l starts)) (StartIsListedAt l starts dep arrival list)
    × FailsFirstAt (length list) (IsNoEndAt l targets list) at)
    ⊎ ((clause ≡ 9) × HoldsBelow (length list) (IsInOrderAt g l arrival list)
    × HoldsBelow (length (start_pairs l starts)) (StartIsListedAt l starts dep arrival list)
    × HoldsBelow (length list) (IsNoEndAt l targets list)
    × FailsFirstAt (length list) (ArcsAreListedAt g l arrival list) at)

-- ---- what it is good for

-- no accepted walk that leaves a start at dep or later reaches a target before the arrival, or at all where there is none
abbrev pub NoneArrivesBefore : GraphMeaning → LabelsMeaning → List ℕ → List ℕ → ℕ → Option ℕ → Type 0
NoneArrivesBefore g l starts targets dep arrival =
    (d t : ℕ) → dep ≤ d → ArrivesAt g l starts targets d t → MatchOption arrival ⊥ (λ a. a ≤ t)

-- ---- pairs, part by part

abbrev pub AllListed : List Label → ℕ → List (ℕ × ℕ) → Type 0
AllListed list dep pairs = All (IsPairListed list dep) pairs

-- the pairs before place k are listed, and the one there is not
pub record FailsAt (list : List Label) (dep : ℕ) (pairs : List (ℕ × ℕ)) (k : ℕ) : Type 0 where
  pub front : List (ℕ × ℕ)
  pub pair : ℕ × ℕ
  pub rest : List (ℕ × ℕ)
  pub split : pairs ≡ front ++ pair ∷ rest
  pub place : length front ≡ k
  pub listed : AllListed list dep front
  pub unlisted : IsPairListed list dep pair → ⊥
