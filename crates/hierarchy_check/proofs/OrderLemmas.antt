-- Which node may stand at a place of the order, by those that were met before.
use Rattle.plan_base.proofs.Common.{◌≡◌, ℕ, ◌+◌, ◌<◌, ◌==◌, ◌||◌, Bool, true, false, not, nat_eq, List, ◌++◌, length, get_or, set, Some, inl, inr, refl, sym, ◌∙◌, subst, arith, All, IsTrue, ◌↔◌, slice_get, false≢true, not-true, not_from_false, eqb-true, eqb-false, eq-eqb, ne_eqb, cases_lt, cases_Bool, option_and_then_some, slice_get_within, length-append, get_or-set_same, get_or-set_other, length-set, list_any_at}
use Rattle.std.proofs.lemmas.Bool.{both_ways, or_from, or_left, or_right}
use Rattle.std.proofs.lemmas.List.Folds.{list_any_none}
use Rattle.plan_base.specs.{Mode}
use Rattle.mode_network.specs.{Arc, Node, mode_at, mode_of, nodes_of, is_end_of, NetworkLists.NetworkLists}
use Rattle.search_laws.specs.{HoldsBelow, FailsFirstAt}
use Rattle.search_laws.proofs.FirstLemmas.{fails_here}
use Rattle.hierarchy.specs.{IsFree, MayStandAt}
use Rattle.hierarchy_check.specs.inside.{AreMet, IsFirstMeeting}

-- ---- links

abbrev touches : ℕ → Arc → Bool
touches x link = (link.from == x) || (link.to == x)

pub free_iff : (n : NetworkLists) (x : ℕ) (mode : Mode) → mode_at n.roads x ≡ Some mode → (b : Bool) → b ≡ is_end_of n.links x → IsTrue (not b) ↔ IsFree n x
free_iff n x mode road b is = (λ h. free (sym is ∙ not-true b h), λ h. not_from_false b (is ∙ unlinked h)) where
  free : is_end_of n.links x ≡ false → IsFree n x
  free none = record {
    mode = mode;
    road = road;
    none_from = λ k d lt same. both_ways (is_end_of n.links x) none (list_any_at (touches x) n.links k d lt (or_left (nat_eq (get_or n.links k d).from x) (nat_eq (get_or n.links k d).to x) (eq-eqb _ _ same)));
    none_to = λ k d lt same. both_ways (is_end_of n.links x) none (list_any_at (touches x) n.links k d lt (or_right (nat_eq (get_or n.links k d).from x) (nat_eq (get_or n.links k d).to x) (eq-eqb _ _ same)));
  }

  unlinked : IsFree n x → is_end_of n.links x ≡ false
  unlinked h = list_any_none (touches x) n.links (λ k d lt. or_from _ _ (ne_eqb _ _ (h.none_from k d lt)) (ne_eqb _ _ (h.none_to k d lt)))

-- ---- meetings

module _ (n : NetworkLists) (order : List ℕ) (k x : ℕ) (met : List Bool) (are : AreMet n order k met) (lt : k < length order) (is : (d : ℕ) → get_or order k d ≡ x) where
  -- who is met for the first time may stand there
  stands_here : IsFirstMeeting n met x → MayStandAt n order k
  stands_here first = (
    λ d. subst (IsFree n) (sym (is d)) first.0,
    λ j d before same. false≢true (sym first.1 ∙ subst (λ v. get_or met v false ≡ true) (same ∙ is d) (are.noted j d before)),
  )

  pub meeting_iff : (b : Bool) → (IsTrue b ↔ IsFirstMeeting n met x) → IsTrue b ↔ MayStandAt n order k
  meeting_iff b test = (λ h. stands_here (test.0 h), λ may. test.1 (subst (IsFree n) (is 0) (may.0 0), is_new may)) where
    is_new : MayStandAt n order k → get_or met x false ≡ false
    is_new may = elim (cases_Bool (get_or met x false)) [
      | inl met_it ↦ let found = are.stands x 0 met_it in absurd (may.1 found.0 0 found.1 (found.2 ∙ sym (is 0)))
      | inr unmet ↦ unmet
    ]

  pub met_more : x < length (nodes_of n) → IsFirstMeeting n met x → AreMet n order (k + 1) (set met x true)
  met_more low first = record {
    one_each = length-set met x true ∙ are.one_each;
    stands = λ v d there. stands_after v d there (nat_eq v x) refl;
    noted = λ j d before. noted_after j d before (nat_eq (get_or order j d) x) refl;
    in_order = in_order;
  } where
    stands_after : (v d : ℕ) → get_or (set met x true) v false ≡ true → (b : Bool) → nat_eq v x ≡ b → (j : ℕ) × (j < k + 1) × (get_or order j d ≡ v)
    stands_after v d there true e = (k, omega arith, is d ∙ sym (eqb-true v x e))
    stands_after v d there false e =
        let found = are.stands v d (sym (get_or-set_other met x v true false (eqb-false v x e)) ∙ there) in
        (found.0, omega (arith, found.1), found.2)

    earlier : (j d : ℕ) → j < k + 1 → nat_eq (get_or order j d) x ≡ false → j < k
    earlier j d before e = elim (cases_lt j k) [
      | inl lt ↦ lt
      | inr ge ↦ let same : j ≡ k = omega (arith, before, ge) in absurd (eqb-false _ _ e (subst (λ i. get_or order i d ≡ x) (sym same) (is d)))
    ]

    noted_after : (j d : ℕ) → j < k + 1 → (b : Bool) → nat_eq (get_or order j d) x ≡ b → get_or (set met x true) (get_or order j d) false ≡ true
    noted_after j d before true e = subst (λ v. get_or (set met x true) v false ≡ true) (sym (eqb-true _ _ e)) (get_or-set_same met x true false (omega (arith, are.one_each)))
    noted_after j d before false e = get_or-set_other met x (get_or order j d) true false (eqb-false _ _ e) ∙ are.noted j d (earlier j d before e)

    in_order : HoldsBelow (k + 1) (MayStandAt n order)
    in_order j before = elim (cases_lt j k) [
      | inl lt ↦ are.in_order j lt
      | inr ge ↦ let same : j ≡ k = omega (arith, before, ge) in subst (MayStandAt n order) (sym same) (stands_here first)
    ]

-- a free node is a node of the network
pub free_below : (n : NetworkLists) (x : ℕ) → IsFree n x → x < length (nodes_of n)
free_below n x free =
    option_and_then_some (λ (node : Node). mode_of node.key) (slice_get n.roads x) free.mode free.road
    (λ node at moded. let within : x < length (n.roads ++ n.stops ++ n.switches) =
    omega (arith, slice_get_within n.roads x node at, length-append n.roads n.stops, length-append (n.roads ++ n.stops) n.switches) in within)

-- so are all nodes that may stand in an order
pub order_below : (n : NetworkLists) (order : List ℕ) → HoldsBelow (length order) (MayStandAt n order) → All (λ x. x < length (nodes_of n)) order
order_below n order may k d lt = free_below n (get_or order k d) ((may k lt).0 d)

-- the first who is not met for the first time may not stand there, and all before may
pub misplaced : (n : NetworkLists) (order : List ℕ) (k x : ℕ) (met : List Bool) → AreMet n order k met → k < length order → ((d : ℕ) → get_or order k d ≡ x)
    → (b : Bool) → (IsTrue b ↔ IsFirstMeeting n met x) → b ≡ false → FailsFirstAt (length order) (MayStandAt n order) k
misplaced n order k x met are lt is b test failed = fails_here (length order) (MayStandAt n order) k b lt (meeting_iff n order k x met are lt is b test) failed are.in_order
