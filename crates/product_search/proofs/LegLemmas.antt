-- The legs of a product state: what they lead to, and the steady arcs that they tell of.
use Rattle.plan_base.proofs.Common.{◌≡◌, ℕ, ◌+◌, ◌<◌, ◌≤◌, List, Some, length, get_or, sym, ◌∙◌, ap, subst, arith, Option, All, slice_index_or, slice_get_within, get_or_from_slice_get}
use Rattle.search_laws.specs.{GraphMeaning, LabelsMeaning, AllAfter, Follows, IsLeg, Leg}
use Rattle.product_search.specs.{declared.row.Reached.Reached, declared.frontier.Scan.Scan, declared.frontier.Frontier.Frontier, inside.IsReachedBy, inside.IsByLegs, inside.LegIsReached, inside.IsSuccessor, inside.ArcIsReached, inside.way_by}
use Rattle.product_search.proofs.OfferLemmas.{all_after_weaker}

abbrev pub no_leg : Leg
no_leg = record { to = 0; ms = 0 }

-- the steady arcs of a node, of which the legs tell, and which have the letter, or none
module _ (g : GraphMeaning) (l : LabelsMeaning) (s : Scan) (legs : List Leg) (letter : Option ℕ) (inside : length legs ≤ g.arcs s.node)
    (same : (i : ℕ) → i < length legs → (g.arc_at s.node i).letter ≡ letter)
    (are : (i : ℕ) (d : Leg) → i < length legs → IsLeg g s.node i (slice_index_or legs i d)) where
  -- what they lead to in a state after the letter is a successor
  pub by_legs : (base : ℕ) → s.node < g.nodes → (next w r : ℕ) (x : Reached) → Follows l s.state letter next → IsByLegs s next legs w r x → IsSuccessor g l base s w r x
  by_legs base node next w r x follows (i, leg, is, by) =
      let lt : i < length legs = slice_get_within legs i leg is in
      let here : IsLeg g s.node i leg = subst (IsLeg g s.node i) (get_or_from_slice_get legs i leg leg is) (are i leg lt) in
      let delay : x.delay ≡ s.delay + leg.ms = ap (λ (y : Reached). y.delay) by.as_made in
      record {
        place = i;
        has = record { node = node; arc = omega arith };
        arrives = here.time (base + s.delay) ∙ ap Some (omega arith);
        node = by.node ∙ here.to;
        state = subst (λ (o : Option ℕ). Follows l s.state o r) (sym (same i lt)) (rw by.state follows);
        as_made = by.as_made ∙ ap (way_by s i) (sym delay);
      }

  -- what the arcs lead to is reached, if what the legs lead to is in each state after the letter
  pub legs_reached : (f : Frontier) → AllAfter l s.state letter (λ next. All (LegIsReached f next s.delay) legs)
      → (i : ℕ) → i < length legs → ArcIsReached g l f s.node s.state (f.base + s.delay) i
  legs_reached f all i lt u e wanted =
      let leg = get_or legs i no_leg in
      let here : IsLeg g s.node i leg = are i no_leg lt in
      let h : Some u ≡ Some (f.base + s.delay + leg.ms) = sym e ∙ here.time (f.base + s.delay) in
      let sum : u ≡ f.base + s.delay + leg.ms = cc in
      let at : u ≡ f.base + (s.delay + leg.ms) = omega arith in
      subst (λ (o : Option ℕ). AllAfter l s.state o (λ r. IsReachedBy f (g.arc_at s.node i).to r u)) (sym (same i lt))
      (all_after_weaker l s.state letter (λ next. All (LegIsReached f next s.delay) legs) (λ r. IsReachedBy f (g.arc_at s.node i).to r u)
      (λ r reached. rw (at, ← here.to) (reached i no_leg lt (rw (← at) wanted))) all)
