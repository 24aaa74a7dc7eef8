-- A hierarchy has one verdict: of the clauses one is the first that fails, at one place.
use Rattle.plan_base.proofs.Common.{◌≡◌, ℕ, ◌⊎◌, inl, inr, List, length, refl, sym, ap, ◌∙◌, subst, Some, All, slice_get, HoldsAt, same_Some}
use Rattle.search_laws.specs.{HoldsBelow, FailsFirstAt}
use Rattle.search_laws.proofs.FirstLemmas.{first_once}
use Rattle.mode_network.specs.NetworkLists.{NetworkLists}
use Rattle.hierarchy.specs.{Entry, Verdict, Sound, Broken, HierarchyLists, MayStandAt, FitsLayer, IsCovered, IsMade, NodeIsBridged, PairsAreBridged, PairIsBridged, BridgesFailFirst, FailsFirst, IsSoundnessVerdict}
use Rattle.promises.specs.{CheckVerdictIsUnique}

-- something fails first at one place
once : (n : ℕ) (P : ℕ → Type 0) (a b : ℕ) → FailsFirstAt n P a → FailsFirstAt n P b → a ≡ b
once n P = first_once n n P P (λ k lt p. p) (λ k lt p. p)

at_each : {X : Type 0} (P : X → Type 0) (xs : List X) → All P xs → HoldsBelow (length xs) (HoldsAt P xs)
at_each P xs all = λ k lt d. all k d lt

-- ---- pairs that are not bridged

same_at : (xs : List ℕ) (i j x y : ℕ) → i ≡ j → slice_get xs i ≡ Some x → slice_get xs j ≡ Some y → x ≡ y
same_at xs i j x y same first second = same_Some x y (sym first ∙ ap (slice_get xs) same ∙ second)

same_entry : (xs : List Entry) (i j : ℕ) (x y : Entry) → i ≡ j → slice_get xs i ≡ Some x → slice_get xs j ≡ Some y → x ≡ y
same_entry xs i j x y same first second = same_Some x y (sym first ∙ ap (slice_get xs) same ∙ second)

bridges_once : (h : HierarchyLists) (at by at2 by2 : ℕ) → BridgesFailFirst h at by → BridgesFailFirst h at2 by2 → Broken 4 at by ≡ Broken 4 at2 by2
bridges_once h at by at2 by2 one other =
    let place = once (length h.order) (HoldsAt (NodeIsBridged h) h.order) one.place other.place one.node_fails other.node_fails in
    let x = same_at h.order one.place other.place one.x other.x place one.node_is other.node_is in
    let entry : at ≡ at2 = once (length h.entries) (HoldsAt (PairsAreBridged h other.x) h.entries) at at2
    (subst (λ v. FailsFirst (PairsAreBridged h v) h.entries at) x one.entry_fails) other.entry_fails in
    let first = same_entry h.entries at at2 one.first other.first entry one.first_is other.first_is in
    let pair : by ≡ by2 = once (length h.entries) (HoldsAt (PairIsBridged h other.x other.first) h.entries) by by2
    (subst (λ v. FailsFirst (PairIsBridged h v other.first) h.entries by) x (subst (λ (e : Entry). FailsFirst (PairIsBridged h one.x e) h.entries by) first one.pair_fails)) other.pair_fails in
    ap (λ k. Broken 4 k by) entry ∙ ap (λ k. Broken 4 at2 k) pair

-- ---- what a verdict is said by: a clause fails first at a place, or it holds and the later ones decide

abbrev ByClause : ℕ → ℕ → (ℕ → Type 0) → (Verdict → Type 0) → Verdict → Type 0
ByClause clause n P later v = ((at : ℕ) × FailsFirstAt n P at × (v ≡ Broken clause at 0)) ⊎ (HoldsBelow n P × later v)

same_clause : (clause n : ℕ) (P : ℕ → Type 0) (later : Verdict → Type 0) → ((v w : Verdict) → later v → later w → v ≡ w)
    → (v w : Verdict) → ByClause clause n P later v → ByClause clause n P later w → v ≡ w
same_clause clause n P later rest v w (inl (a, p, e)) (inl (b, q, f)) = e ∙ (ap (λ at. Broken clause at 0) (once n P a b p q) ∙ sym f)
same_clause clause n P later rest v w (inl (a, p, e)) (inr (q, more)) = absurd (p.fails (q a p.place))
same_clause clause n P later rest v w (inr (p, more)) (inl (b, q, f)) = absurd (q.fails (p b q.place))
same_clause clause n P later rest v w (inr (p, x)) (inr (q, y)) = rest v w x y

module _ (n : NetworkLists) (h : HierarchyLists) where
  abbrev ByBridges : Verdict → Type 0
  ByBridges v = ((at : ℕ) × (by : ℕ) × BridgesFailFirst h at by × (v ≡ Broken 4 at by)) ⊎ (All (NodeIsBridged h) h.order × (v ≡ Sound))

  abbrev ByMade : Verdict → Type 0
  ByMade = ByClause 3 (length h.entries) (HoldsAt (IsMade n h) h.entries) ByBridges

  abbrev ByCovered : Verdict → Type 0
  ByCovered = ByClause 2 (length n.arcs) (HoldsAt (IsCovered h) n.arcs) ByMade

  abbrev ByLayers : Verdict → Type 0
  ByLayers = ByClause 5 (length h.entries) (HoldsAt (FitsLayer n) h.entries) ByCovered

  abbrev ByOrder : Verdict → Type 0
  ByOrder = ByClause 1 (length h.order) (MayStandAt n h.order) ByLayers

  same_bridges : (v w : Verdict) → ByBridges v → ByBridges w → v ≡ w
  same_bridges v w (inl (a, b, p, e)) (inl (c, d, q, f)) = e ∙ (bridges_once h a b c d p q ∙ sym f)
  same_bridges v w (inl (a, b, p, e)) (inr (all, f)) = absurd (p.node_fails.fails (λ d. all p.place d p.node_fails.place))
  same_bridges v w (inr (all, e)) (inl (c, d, q, f)) = absurd (q.node_fails.fails (λ d. all q.place d q.node_fails.place))
  same_bridges v w (inr (_, e)) (inr (_, f)) = e ∙ sym f

  clauses_of : (v : Verdict) → IsSoundnessVerdict n h v → ByOrder v
  clauses_of Sound sound = inr (
    sound.in_order,
    inr (
      at_each (FitsLayer n) h.entries sound.in_layers,
      inr (at_each (IsCovered h) n.arcs sound.arcs_covered, inr (at_each (IsMade n h) h.entries sound.made, inr (sound.bridged, refl))),
    ),
  )
  clauses_of (Broken clause at by) (inl (is, none, fails)) = inl (at, fails, ap (λ c. Broken c at by) is ∙ ap (λ b. Broken 1 at b) none)
  clauses_of (Broken clause at by) (inr (inl (is, none, order, fails))) = inr (order, inl (at, fails, ap (λ c. Broken c at by) is ∙ ap (λ b. Broken 5 at b) none))
  clauses_of (Broken clause at by) (inr (inr (inl (is, none, order, layers, fails)))) =
      inr (order, inr (at_each (FitsLayer n) h.entries layers, inl (at, fails, ap (λ c. Broken c at by) is ∙ ap (λ b. Broken 2 at b) none)))
  clauses_of (Broken clause at by) (inr (inr (inr (inl (is, none, order, layers, covered, fails))))) = inr (
    order,
    inr (
      at_each (FitsLayer n) h.entries layers,
      inr (at_each (IsCovered h) n.arcs covered, inl (at, fails, ap (λ c. Broken c at by) is ∙ ap (λ b. Broken 3 at b) none)),
    ),
  )
  clauses_of (Broken clause at by) (inr (inr (inr (inr (is, order, layers, covered, made, fails))))) = inr (
    order,
    inr (
      at_each (FitsLayer n) h.entries layers,
      inr (at_each (IsCovered h) n.arcs covered, inr (at_each (IsMade n h) h.entries made, inl (at, by, fails, ap (λ c. Broken c at by) is))),
    ),
  )

pub check_verdict_is_unique : CheckVerdictIsUnique
check_verdict_is_unique n h one other p q =
    same_clause 1 _ _ _ (same_clause 5 _ _ _ (same_clause 2 _ _ _ (same_clause 3 _ _ _ (same_bridges n h)))) one other (clauses_of n h one p) (clauses_of n h other q)
