-- Lists of labels that go on, label by label and row by row.
use Rattle.plan_base.proofs.Common.{◌≡◌, ◌∙◌, ℕ, ◌+◌, ◌*◌, ◌^◌, ◌<◌, ◌⊎◌, inl, inr, false, List, [], ◌∷◌, ◌++◌, length, get_or, take, take_more, slice_index, slice_get, Some, refl, sym, ap, subst, arith, Contains, All-contains, All-contains_itself, Contains-append_left, Contains-push, Contains-push_cases, cases_eq, Vec, Global}
use Rattle.search_laws.specs.{GraphMeaning, IsLawfulLabels}
use Rattle.mode_network.specs.{nodes_of}
use Rattle.mode_network.proofs.RuleLemmas.{some_is}
use Rattle.product_search.specs.{Label}
use Rattle.product_search.proofs.ClosureLemmas.{walk_stays}
use Rattle.phase_graph.specs.{phase_node, InUseGraph.meaning_in_use, InUseGraph.lawful_in_use}
use Rattle.sweeps.specs.{time_at}
use Rattle.sweeps.proofs.EntryLemmas.{Contains-from_map}
use Rattle.rounds.specs.{AreRounds, AreStarts, CoreLayer}
use Rattle.rounds.specs.inside.{AskedMeaning, Reaches, IsLayerOf, Turn, node_at, row_of, cell, never, AddsLabels, IsOfAny, IsRowLabel, IsWalkLabel, IsCrossingLabel, AreLabelsOf, crossing_node}

-- a list goes on with nothing
pub adds_none : (P : Label → Type 0) (xs : List Label) → ((x : Label) → P x → ⊥) → AddsLabels P xs xs
adds_none P xs none = record { kept = All-contains_itself xs; new = λ k d lt. inl (All-contains_itself xs k d lt); all = λ x p. absurd (none x p) }

-- of which something else holds just as well
pub adds_same : (P Q : Label → Type 0) (before after : List Label) → AddsLabels P before after → ((x : Label) → P x → Q x) → ((x : Label) → Q x → P x) → AddsLabels Q before after
adds_same P Q before after adds there back = record {
  kept = adds.kept;
  new = λ k d lt. elim (adds.new k d lt) [ inl old ↦ inl old | inr p ↦ inr (there _ p) ];
  all = λ x q. adds.all x (back x q);
}

-- with one label
pub adds_one : (xs : List Label) (y : Label) → AddsLabels (λ x. x ≡ y) xs (xs ++ y ∷ [])
adds_one xs y = record {
  kept = λ k d lt. Contains-append_left xs (y ∷ []) _ (All-contains_itself xs k d lt);
  new = λ k d lt. elim (Contains-push_cases xs y _ (All-contains_itself (xs ++ y ∷ []) k d lt)) [ inl there ↦ inl there | inr same ↦ inr (sym same) ];
  all = λ x same. subst (Contains (xs ++ y ∷ [])) (sym same) (Contains-push xs y);
}

-- with some labels, and then with others
pub adds_more : (P R Q : Label → Type 0) (before mid after : List Label) → AddsLabels P before mid → AddsLabels R mid after → ((x : Label) → P x → Q x) → ((x : Label) → R x → Q x)
    → ((x : Label) → Q x → P x ⊎ R x) → AddsLabels Q before after
adds_more P R Q before mid after first then from_first from_then are = record {
  kept = λ k d lt. All-contains (Contains after) mid _ then.kept (first.kept k d lt);
  new = λ k d lt. by_then _ (then.new k d lt);
  all = λ x q. by_part x (are x q);
} where
  by_first : (x : Label) → Contains before x ⊎ P x → Contains before x ⊎ Q x
  by_first x (inl old) = inl old
  by_first x (inr p) = inr (from_first x p)

  by_then : (x : Label) → Contains mid x ⊎ R x → Contains before x ⊎ Q x
  by_then x (inl there) = by_first x (All-contains (λ y. Contains before y ⊎ P y) mid x first.new there)
  by_then x (inr r) = inr (from_then x r)

  by_part : (x : Label) → P x ⊎ R x → Contains after x
  by_part x (inl p) = All-contains (Contains after) mid x then.kept (first.all x p)
  by_part x (inr r) = then.all x r

-- with the labels for one more of some
module _ {X : Type 0} (P : X → Label → Type 0) (xs : List X) (k : ℕ) (d : X) (lt : k < length xs) where
  abbrev this : X
  this = get_or xs k d

  of_split : (x : Label) → IsOfAny P (take k xs ++ this ∷ []) x → IsOfAny P (take k xs) x ⊎ P this x
  of_split x (y, there, p) = elim (Contains-push_cases (take k xs) this y there) [ inl was ↦ inl (y, was, p) | inr same ↦ inr (subst (λ z. P z x) (sym same) p) ]

  pub of_more : (old now next : List Label) → AddsLabels (IsOfAny P (take k xs)) old now → AddsLabels (P this) now next → AddsLabels (IsOfAny P (take (k + 1) xs)) old next
  of_more old now next so_far adds =
      subst (λ ys. AddsLabels (IsOfAny P ys) old next) (sym (take_more xs k d lt))
      (adds_more (IsOfAny P (take k xs)) (P this) (IsOfAny P (take k xs ++ this ∷ [])) old now next so_far adds (λ x of. (of.0, Contains-append_left (take k xs) (this ∷ []) of.0 of.1, of.2))
      (λ x p. (this, Contains-push (take k xs) this, p)) of_split)

-- ---- rows

module _ (nodes delays : List ℕ) (state dep k : ℕ) where
  abbrev Before : Label → Type 0
  Before = IsRowLabel nodes delays state dep k

  abbrev Next : Label → Type 0
  Next = IsRowLabel nodes delays state dep (k + 1)

  -- labels of places before are still some
  still : (x : Label) → Before x → Next x
  still x r = record { place = r.place; within = omega (arith, r.within); some = r.some; is = r.is }

  module _ (old labels : List Label) (so_far : AddsLabels Before old labels) where
    -- a place without a delay has no label
    pub row_passes : time_at delays k ≡ never → AddsLabels Next old labels
    row_passes none = adds_same Before Next old labels so_far still (λ x r. record { place = r.place; within = before r.place r.within r.some; some = r.some; is = r.is })
      where
        before : (place : ℕ) → place < k + 1 → time_at delays place < never → place < k
        before place within some = elim (cases_eq place k) [
          | inl same ↦ (let is = ap (time_at delays) same in absurd (omega (arith, none, some)))
          | inr other ↦ omega (arith, within, other)
        ]

    -- one with a delay has one
    pub row_more : (y : Label) → time_at delays k < never → y ≡ record { node = phase_node (slice_index nodes k) false; state = state; at = dep + time_at delays k } → AddsLabels Next old (labels ++ y ∷ [])
    row_more y some is = adds_more Before (λ x. x ≡ y) Next old labels (labels ++ y ∷ []) so_far (adds_one labels y) still (λ x same. record { place = k; within = omega arith; some = some; is = same ∙ is }) split
      where
        split : (x : Label) → Next x → Before x ⊎ (x ≡ y)
        split x r = elim (cases_eq r.place k) [
          | inl same ↦ inr (r.is ∙ ap (λ i. record { node = phase_node (slice_index nodes i) false; state = state; at = dep + time_at delays i }) same ∙ sym is)
          | inr other ↦ inl (record { place = r.place; within = omega (arith, r.within, other); some = r.some; is = r.is })
        ]

-- ---- rows of crossings

module _ (a : AskedMeaning) (rows : List (Vec ℕ Global)) where
  -- in one of the first so many states
  abbrev pub IsCrossingBelow : ℕ → Label → Type 0
  IsCrossingBelow count x = IsCrossingLabel a rows x × (x.state < count)

  abbrev pub CrossingRow : ℕ → Label → Type 0
  CrossingRow k = IsRowLabel a.rounds.crossings.items (row_of rows k) k a.dep (length (row_of rows k))

  -- with the labels of the next row there are those of a state more
  pub crossings_more : (k : ℕ) (old labels after : List Label) → k < a.labels.states → length (row_of rows k) ≡ length a.rounds.crossings.items
      → AddsLabels (IsCrossingBelow k) old labels → AddsLabels (CrossingRow k) labels after → AddsLabels (IsCrossingBelow (k + 1)) old after
  crossings_more k old labels after state width so_far row = adds_more (IsCrossingBelow k) (CrossingRow k) (IsCrossingBelow (k + 1)) old labels after so_far row (λ x p. (p.0, omega (arith, p.1))) from_row split
    where
      from_row : (x : Label) → CrossingRow k x → IsCrossingBelow (k + 1) x
      from_row x r =
          let y : Label = record { node = crossing_node a r.place; state = k; at = a.dep + cell rows k r.place } in
          let label : IsCrossingLabel a rows y = record { crossing = r.place; is_state = state; within = omega (arith, r.within, width); some = r.some; is = refl } in
          subst (IsCrossingBelow (k + 1)) (sym r.is) (label, omega arith)

      split : (x : Label) → IsCrossingBelow (k + 1) x → IsCrossingBelow k x ⊎ CrossingRow k x
      split x (label, below) = elim (cases_eq x.state k) [
        | inl same ↦ inr (record {
          place = label.crossing;
          within = omega (arith, label.within, width);
          some = subst (λ q. cell rows q label.crossing < never) same label.some;
          is = subst (λ q. x ≡ record { node = crossing_node a label.crossing; state = q; at = a.dep + cell rows q label.crossing }) same label.is;
        })
        | inr other ↦ inl (label, omega (arith, below, other))
      ]

-- ---- rows of walks

module _ (a : AskedMeaning) (turns : List Turn) (walks : List (Vec ℕ Global)) where
  -- in one of the first so many rows
  abbrev pub IsWalkBelow : ℕ → Label → Type 0
  IsWalkBelow count x = (w : IsWalkLabel a turns walks x) × (w.row < count)

  abbrev pub WalkRow : ℕ → Turn → CoreLayer → Label → Type 0
  WalkRow k turn layer = IsRowLabel layer.sheet.slope.nodes.items (row_of walks k) turn.state a.dep (length (row_of walks k))

  -- with the labels of the next row there are those of a row more
  pub walks_more : (k : ℕ) (turn : Turn) (layer : CoreLayer) (old labels after : List Label) → slice_get turns k ≡ Some turn → IsLayerOf a turn.letter layer
      → AddsLabels (IsWalkBelow k) old labels → AddsLabels (WalkRow k turn layer) labels after → AddsLabels (IsWalkBelow (k + 1)) old after
  walks_more k turn layer old labels after is_turn is_layer so_far row = adds_more (IsWalkBelow k) (WalkRow k turn layer) (IsWalkBelow (k + 1)) old labels after so_far row (λ x p. (p.0, omega (arith, p.1))) from_row split
    where
      from_row : (x : Label) → WalkRow k turn layer x → IsWalkBelow (k + 1) x
      from_row x r = (record { turn = turn; layer = layer; row = k; place = r.place; is_turn = is_turn; is_layer = is_layer; within = r.within; some = r.some; is = r.is }, omega arith)

      split : (x : Label) → IsWalkBelow (k + 1) x → IsWalkBelow k x ⊎ WalkRow k turn layer x
      split x (w, below) = elim (cases_eq w.row k) [
        | inl same ↦ (
            let one : w.turn ≡ turn = some_is (sym w.is_turn ∙ ap (slice_get turns) same ∙ is_turn) in
            let other : w.layer ≡ layer = some_is (sym w.is_layer ∙ ap (λ (t : Turn). slice_get a.rounds.layers.items t.letter) one ∙ is_layer) in
            inr (record {
              place = w.place;
              within = subst (λ r. w.place < length (row_of walks r)) same w.within;
              some = subst (λ r. cell walks r w.place < never) same w.some;
              is = w.is ∙ ap (λ r. record { node = phase_node (node_at w.layer w.place) false; state = w.turn.state; at = a.dep + cell walks r w.place }) same
                  ∙ ap (λ (t : Turn). record { node = phase_node (node_at w.layer w.place) false; state = t.state; at = a.dep + cell walks k w.place }) one
                  ∙ ap (λ y. record { node = phase_node (node_at y w.place) false; state = turn.state; at = a.dep + cell walks k w.place }) other;
            })
            )
        | inr other ↦ inl (w, omega (arith, below, other))
      ]

-- ---- all of them

-- first labels that go on with those of walks and of crossings
pub labels_of : (a : AskedMeaning) (firsts : List Label) (turns : List Turn) (walks rows : List (Vec ℕ Global)) (mid labels : List Label) → AddsLabels (IsWalkLabel a turns walks) firsts mid → AddsLabels (IsCrossingLabel a rows) mid labels
    → AreLabelsOf a firsts turns walks rows labels
labels_of a firsts turns walks rows mid labels first then = record {
  are = λ k d lt. by_then _ (then.new k d lt);
  firsts_too = λ k d lt. on _ (first.kept k d lt);
  walks_too = λ x w. on x (first.all x w);
  crossings_too = then.all;
} where
  on : (x : Label) → Contains mid x → Contains labels x
  on x there = All-contains (Contains labels) mid x then.kept there

  by_first : (x : Label) → Contains firsts x ⊎ IsWalkLabel a turns walks x → Contains firsts x ⊎ IsWalkLabel a turns walks x ⊎ IsCrossingLabel a rows x
  by_first x (inl old) = inl old
  by_first x (inr w) = inr (inl w)

  by_then : (x : Label) → Contains mid x ⊎ IsCrossingLabel a rows x → Contains firsts x ⊎ IsWalkLabel a turns walks x ⊎ IsCrossingLabel a rows x
  by_then x (inl there) = by_first x (All-contains (λ y. Contains firsts y ⊎ IsWalkLabel a turns walks y) mid x first.new there)
  by_then x (inr c) = inr (inr c)

-- ---- numbers

module _ (a : AskedMeaning) (is : AreRounds a.rounds) (starts : AreStarts a.rounds a.starts) (lawful : IsLawfulLabels a.labels) where
  abbrev g : GraphMeaning
  g = meaning_in_use a.rounds.graph

  -- what is reached from starts is a number of the phase graph
  pub reached_inside : (p q t : ℕ) → Reaches a p q t → p < g.nodes
  reached_inside p q t r =
      let from = Contains-from_map (λ v. phase_node v false) starts.origins r.start (subst (λ ps. Contains ps r.start) starts.are r.starts_there) in
      let low : from.0 < length (nodes_of a.rounds.network.now) = All-contains (λ v. v < length (nodes_of a.rounds.network.now)) starts.origins from.0 starts.within from.1 in
      let count : g.nodes ≡ 2 * length (nodes_of a.rounds.network.now) = ap (λ (x : GraphMeaning). x.nodes) is.in_use.is in
      walk_stays g (lawful_in_use a.rounds.graph) a.labels lawful r.steps r.start a.dep p t (omega (arith, low, count, from.2)) r.walk

  pub reached_low : (p q t : ℕ) → Reaches a p q t → p < 2 ^ 25
  reached_low p q t r = omega (arith, reached_inside p q t r, (lawful_in_use a.rounds.graph).few_nodes)
