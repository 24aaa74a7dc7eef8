-- Labels that are noted as delays of crossings and of walks.
use Rattle.plan_base.proofs.Common.{◌≡◌, ◌∙◌, ℕ, ◌+◌, ◌*◌, ◌<◌, ◌≤◌, List, length, get_or, take, refl, sym, ap, subst, arith, Vec, Global, All, Contains, All-more, All-weaker, Contains-get_or, slice_index}
use Rattle.product_search.specs.{Label}
use Rattle.phase_graph.specs.{node_of}
use Rattle.sweeps.specs.{time_at, inside.ArePlacesOf}
use Rattle.rounds.specs.inside.{cell, never, AreLowered, IsRowLowered, Turn, IsOfLabel, IsOfSource, IsNotedIn, IsNotedAt}
use Rattle.rounds.proofs.RowLemmas.{row_then, row_weaker, lowered_then, lowered_weaker}

-- a node that has a place stands at no other
only_place : (nodes table : List ℕ) → ArePlacesOf nodes (length nodes) table → (i j : ℕ) → i < length nodes → j < length nodes → slice_index nodes i ≡ slice_index nodes j → i ≡ j
only_place nodes table placed i j in_i in_j same = sym (placed i in_i).1 ∙ ap (slice_index table) same ∙ (placed j in_j).1

module _ (dep : ℕ) (nodes table : List ℕ) (placed : ArePlacesOf nodes (length nodes) table) (x : Label) where
  module _ (place delay : ℕ) (within : place < length nodes) (is : slice_index nodes place ≡ node_of x.node) (at : x.at ≡ dep + delay) (fits : delay < never) where
    -- where its delay is in the rows it is noted
    pub noted_here : (rows : List (Vec ℕ Global)) → cell rows x.state place ≤ delay → IsNotedIn dep nodes rows x
    noted_here rows le = λ i lt node.
        (let same : i ≡ place = only_place nodes table placed i place lt within (omega (arith, node, is)) in
        let here : cell rows x.state i ≡ cell rows x.state place = ap (cell rows x.state) same in
        (omega arith, omega (arith, at)))

    -- and so it is in a row
    pub noted_there : (turn : Turn) (row : List ℕ) → time_at row place ≤ delay → IsNotedAt dep nodes turn row x
    noted_there turn row le = λ i source lt node.
        (let same : i ≡ place = only_place nodes table placed i place lt within (omega (arith, node, is)) in
        let here : time_at row i ≡ time_at row place = ap (time_at row) same in
        (omega arith, omega (arith, at)))

  -- at none of the nodes there is nothing to note
  no_node : (Contains nodes (node_of x.node) → ⊥) → (i : ℕ) → i < length nodes → x.node ≡ 2 * slice_index nodes i → ⊥
  no_node nowhere i lt node = let half : slice_index nodes i ≡ node_of x.node = omega (arith, node) in nowhere (subst (Contains nodes) half (Contains-get_or nodes i 0 lt))

  pub noted_nowhere : (Contains nodes (node_of x.node) → ⊥) → (rows : List (Vec ℕ Global)) → IsNotedIn dep nodes rows x
  noted_nowhere nowhere rows = λ i lt node. absurd (no_node nowhere i lt node)

  -- nor is there in none of the sources
  pub noted_not_there : (turn : Turn) (row : List ℕ) → (Contains turn.sources.items x.state → Contains nodes (node_of x.node) → ⊥) → IsNotedAt dep nodes turn row x
  noted_not_there turn row nowhere = λ i source lt node. absurd (no_node (nowhere source) i lt node)

-- what is noted stays so where delays are made less
module _ (dep : ℕ) (nodes : List ℕ) (labels : List Label) where
  pub still_noted : (P : ℕ → ℕ → ℕ → Type 0) (now next : List (Vec ℕ Global)) → AreLowered P now next → All (IsNotedIn dep nodes now) labels → All (IsNotedIn dep nodes next) labels
  still_noted P now next lowered noted = All-weaker (IsNotedIn dep nodes now) (IsNotedIn dep nodes next)
      (λ x is i lt node. (let before = is i lt node in (omega (arith, before.0, lowered.no_later x.state i), omega (arith, before.1, lowered.no_later x.state i)))) labels noted

  pub still_there : (turn : Turn) (now next : List ℕ) → ((i : ℕ) → time_at next i ≤ time_at now i) → All (IsNotedAt dep nodes turn now) labels → All (IsNotedAt dep nodes turn next) labels
  still_there turn now next no_later noted = All-weaker (IsNotedAt dep nodes turn now) (IsNotedAt dep nodes turn next)
      (λ x is i source lt node. (let before = is i source lt node in (omega (arith, before.0, no_later i), omega (arith, before.1, no_later i)))) labels noted

-- ---- one label more

module _ (dep : ℕ) (nodes : List ℕ) (labels : List Label) (k : ℕ) (d : Label) (lt : k < length labels) where
  abbrev this : Label
  this = get_or labels k d

  module _ (place delay : ℕ) (within : place < length nodes) (is : slice_index nodes place ≡ node_of this.node) (at : this.at ≡ dep + delay) where
    this_label : (q i t : ℕ) → q ≡ this.state → i ≡ place → t ≡ delay → IsOfLabel dep nodes labels q i t
    this_label q i t state here then = record {
      label = this;
      of = Contains-get_or labels k d lt;
      state = sym state;
      place = omega (arith, here, within);
      is = ap (slice_index nodes) here ∙ is;
      at = omega (arith, at, then);
    }

    pub label_lowered : (before now next : List (Vec ℕ Global)) → AreLowered (λ q i t. (q ≡ this.state) × (i ≡ place) × (t ≡ delay)) now next → AreLowered (IsOfLabel dep nodes labels) before now
        → AreLowered (IsOfLabel dep nodes labels) before next
    label_lowered before now next more lowered =
        lowered_then (IsOfLabel dep nodes labels) before now next lowered
        (lowered_weaker (λ q i t. (q ≡ this.state) × (i ≡ place) × (t ≡ delay)) (IsOfLabel dep nodes labels) now next (λ q i t p. this_label q i t p.0 p.1 p.2) more)

    pub source_lowered : (turn : Turn) → Contains turn.sources.items this.state → (before now next : List ℕ) → IsRowLowered (λ i t. (i ≡ place) × (t ≡ delay)) now next
        → IsRowLowered (IsOfSource dep nodes labels turn) before now → IsRowLowered (IsOfSource dep nodes labels turn) before next
    source_lowered turn source before now next more lowered =
        row_then (IsOfSource dep nodes labels turn) before now next lowered
        (row_weaker (λ i t. (i ≡ place) × (t ≡ delay)) (IsOfSource dep nodes labels turn) now next (λ i t p. (this.state, source, this_label this.state i t refl p.0 p.1)) more)

    -- a label that is noted in a row is, and those before it are still
    pub walk_noted : (table : List ℕ) → ArePlacesOf nodes (length nodes) table → delay < never → (turn : Turn) → (now next : List ℕ) → IsRowLowered (λ i t. (i ≡ place) × (t ≡ delay)) now next → time_at next place ≤ delay
        → All (IsNotedAt dep nodes turn now) (take k labels) → All (IsNotedAt dep nodes turn next) (take (k + 1) labels)
    walk_noted table placed fits turn now next more here noted =
        All-more (IsNotedAt dep nodes turn next) labels k d lt (still_there dep nodes (take k labels) turn now next more.no_later noted) (noted_there dep nodes table placed this place delay within is at fits turn next here)
