-- The nodes that are to be contracted, and their number.
use Rattle.plan_base.proofs.Common.{◌≡◌, ◌≢◌, ℕ, suc, ◌+◌, ◌-◌, ◌<◌, ◌≤◌, inl, inr, Bool, true, false, cond, List, [], ◌∷◌, ◌++◌, ◌∙◌, length, get_or, set, Some, None, sym, ap, subst, arith, Contains, slice_get, count_by, cases_eq, false≢true, length-set, length_push, Contains-get_or, sum_by-set, sum_by_push, slice_get_within, get_or_from_slice_get, same_Some}
use Rattle.mode_network.specs.{NetworkLists.NetworkLists, Leads}
use Rattle.hierarchy.specs.{Entry, Hop, AreHops, total, HierarchyLists, IsCore, IsFree}
use Rattle.hierarchy.proofs.RoadLemmas.{roads_under}
use Rattle.contractor.specs.{is_free, free_below, free_count, IsContractedTo, IsTrueDistance, inside.AreWaiting, inside.IsFinished}
use Rattle.witness.proofs.ListLemmas.{slice_get-set_same, slice_get-set_other}
use Rattle.contractor.proofs.{ListLemmas.slice_get_push_cases, LiveLemmas.core_more}

abbrev pub as_number : Bool → ℕ
as_number b = cond b 1 0

at_most_one : (b : Bool) → as_number b ≤ 1
at_most_one true = omega arith
at_most_one false = omega arith

-- a marked node is contracted, and marked no more
pub waiting_less : (n : NetworkLists) (order next : List ℕ) (left x : ℕ) (waiting : List Bool) → slice_get waiting x ≡ Some true → next ≡ order ++ x ∷ [] → AreWaiting n order left waiting → AreWaiting n next (left - 1) (set waiting x false)
waiting_less n order next left x waiting at is are = record {
  count = length-set waiting x false ∙ are.count;
  each = λ v marked. elim (cases_eq v x) [
    | inl same ↦ absurd (false≢true (same_Some false true (sym (slice_get-set_same waiting x false inside) ∙ ap (slice_get (set waiting x false)) (sym same) ∙ marked)))
    | inr other ↦ (let was = are.each v (sym (slice_get-set_other waiting x v false other) ∙ marked) in (was.0, subst (λ o. IsCore o v) (sym is) (core_more order x v other was.1)))
  ];
  number = (let sum = sum_by-set as_number waiting x false true inside in
      let here : as_number (get_or waiting x true) ≡ as_number true = ap as_number (get_or_from_slice_get waiting x true true at) in
      omega (arith, sum, here, are.number));
} where
  inside : x < length waiting
  inside = slice_get_within waiting x true at

-- one node more is looked at
free_more : (n : NetworkLists) (v : ℕ) → free_below n (v + 1) ≡ free_below n v + cond (is_free n v) 1 0
free_more n v = let next : v + 1 ≡ suc v = omega arith in ap (free_below n) next

pub node_more : (n : NetworkLists) (v count next : ℕ) (waiting new : List Bool) (free : Bool) → free ≡ is_free n v → (free ≡ true → IsFree n v) → new ≡ waiting ++ free ∷ [] → next ≡ count + cond free 1 0
    → length waiting ≡ v → ((u : ℕ) → slice_get waiting u ≡ Some true → IsFree n u) → count_by (λ b. b) waiting ≡ count → count ≡ free_below n v → count ≤ v
    → (length new ≡ v + 1) × ((u : ℕ) → slice_get new u ≡ Some true → IsFree n u) × (count_by (λ b. b) new ≡ next) × (next ≡ free_below n (v + 1)) × (next ≤ v + 1)
node_more n v count next waiting new free is frees pushed more len each marked sum few = (
  ap length pushed ∙ length_push waiting free ∙ ap (λ k. k + 1) len,
  (λ u at. elim (slice_get_push_cases waiting free u true (subst (λ bs. slice_get bs u ≡ Some true) pushed at)) [
    | inl last ↦ subst (IsFree n) (sym (last.0 ∙ len)) (frees (sym last.1))
    | inr before ↦ each u before.1
  ]),
  ap (count_by (λ b. b)) pushed ∙ sum_by_push as_number waiting free ∙ ap (λ k. k + cond free 1 0) marked ∙ sym more,
  more ∙ ap (λ k. k + cond free 1 0) sum ∙ ap (λ (b : Bool). free_below n v + cond b 1 0) is ∙ sym (free_more n v),
  (let one = at_most_one free in omega arith),
)

-- ---- the end

pub is_contracted : (n : NetworkLists) (keep free number : ℕ) (order : List ℕ) (h : HierarchyLists) → free ≡ free_count n → number ≡ free - keep → length order ≡ number → IsFinished n order h → IsContractedTo n keep h
is_contracted n keep free number order h is less done f = record {
  sound = f.sound;
  core = ap length f.order_is ∙ done ∙ less ∙ ap (λ k. k - keep) is;
  distances = λ k d low. distance (get_or h.entries k d) (Contains-get_or h.entries k d low) (f.true_weights k d low);
} where
  distance : (e : Entry) → Contains h.entries e → (e.via ≢ None → (roads : List Hop) → AreHops (Leads n.arcs) e.from roads e.to → e.weight ≤ total roads) → IsTrueDistance n e
  distance e there least made =
      let r = roads_under n h f.sound e.from e.to e.weight (e.via, there) in
      record { roads = record { hops = r.hops; walk = r.walk; weighs = r.weighs }; least = least made }
