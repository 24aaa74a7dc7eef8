-- Before any contraction each road arc is an entry.
use Rattle.plan_base.proofs.Common.{◌≡◌, ℕ, ◌+◌, ◌<◌, ◌≤◌, ◌^◌, inl, inr, true, not, nat_eq, List, [], ◌∙◌, length, take, get_or, Some, None, refl, sym, ap, subst, arith, Option, All, and_parts, eqb-false, not-true, nat_tests, length-take, get_or-take, take_all, get_or_default, All-contains, Contains-get_or, All-more, Less}
use Rattle.mode_network.specs.{Arc, mode_at, Leads, IsNetwork, joins_modes, is_same_mode, arc_cmp, NetworkLists.NetworkLists}
use Rattle.plan_base.specs.{Mode}
use Rattle.mode_network.proofs.RuleLemmas.{arcs_in_range, nodes_hold_roads, same_mode_is}
use Rattle.search_laws.specs.{HoldsBelow}
use Rattle.hierarchy.specs.{Entry, HasEntry, FitsLayer, MayStandAt, NodeIsBridged, IsMade, IsMadeBy}
use Rattle.contractor.specs.{declared.layer.Layer.Layer, inside.IsPut, inside.IsLayer, inside.IsState, inside.AreArcs, inside.IsEntryPlaced, inside.FitsRows, inside.AreWalks, inside.lists_of}
use Rattle.contractor.proofs.{PutLemmas.put_is, PutLemmas.put_layer, SimpleLemmas.road}

abbrev entry_of : Arc → Entry
entry_of arc = record { from = arc.from; to = arc.to; weight = arc.ms; via = None }

-- a road arc joins different nodes of one layer
pub arc_fits : (n : NetworkLists) (arc : Arc) → joins_modes n.roads arc ≡ true → (w : ℕ) (via : Option ℕ) → w < 2 ^ 56 → FitsLayer n (record { from = arc.from; to = arc.to; weight = w; via = via })
arc_fits n arc joins w via light = by_modes (mode_at n.roads arc.from) (mode_at n.roads arc.to) refl refl parts.0
  where
    parts : (is_same_mode (mode_at n.roads arc.from) (mode_at n.roads arc.to) ≡ true) × (not (nat_eq arc.from arc.to) ≡ true)
    parts = and_parts (is_same_mode (mode_at n.roads arc.from) (mode_at n.roads arc.to)) (not (nat_eq arc.from arc.to)) joins

    by_modes : (a b : Option Mode) → mode_at n.roads arc.from ≡ a → mode_at n.roads arc.to ≡ b → is_same_mode a b ≡ true → FitsLayer n (record { from = arc.from; to = arc.to; weight = w; via = via })
    by_modes (Some a) (Some b) from to same = record {
      differ = eqb-false arc.from arc.to (not-true (nat_eq arc.from arc.to) parts.1);
      mode = a;
      from_mode = from;
      to_mode = to ∙ ap Some (sym (same_mode_is a b same));
      light = light;
    }
    by_modes (Some a) None from to same = cc
    by_modes None b from to same = cc

-- the arc at a place of the list of all arcs
pub arc_at : (n : NetworkLists) (items : List Arc) (k : ℕ) (d : Arc) → items ≡ n.arcs → k < length items → (k < length n.arcs) × ((e : Arc) → get_or n.arcs k e ≡ get_or items k d)
arc_at n items k d same lt = (subst (λ (xs : List Arc). k < length xs) same lt, λ e. subst (λ (xs : List Arc). get_or xs k e ≡ get_or items k d) same (get_or_default items k e d lt))

-- arcs with the same ends are one
same_arc : (n : NetworkLists) → IsNetwork n → (i j : ℕ) (d : Arc) → i < j → j < length n.arcs → (get_or n.arcs i d).from ≡ (get_or n.arcs j d).from → (get_or n.arcs i d).to ≡ (get_or n.arcs j d).to → ⊥
same_arc n network i j d lt low from to = not_less (get_or n.arcs i d) (get_or n.arcs j d) (network.arcs_ascend i j d lt low) from to where
  not_less : (a b : Arc) → arc_cmp a b ≡ Less → a.from ≡ b.from → a.to ≡ b.to → ⊥
  not_less a b h from to = grind (arith, nat_tests)

module _ (n : NetworkLists) (network : IsNetwork n) (k : ℕ) (arc : Arc) (lt : k < length n.arcs) (is : (d : Arc) → get_or n.arcs k d ≡ arc) (old new : Layer) (are : AreArcs n k old) where
  listed : Leads n.arcs arc.from arc.to arc.ms
  listed = (k, lt, is arc)

  pub arc_low : (arc.from < length old.rows.items) × (arc.to < length old.rows.items)
  arc_low =
      let inside = All-contains (λ (a : Arc). (a.from < length n.roads) × (a.to < length n.roads)) n.arcs arc (arcs_in_range n network) listed in
      let hold = nodes_hold_roads n network in
      (omega (arith, are.count), omega (arith, are.count))

  pub arcs_more : IsEntryPlaced old new (entry_of arc) → AreArcs n (k + 1) new
  arcs_more p = record {
    order = p.order ∙ are.order;
    witnesses = p.witnesses ∙ are.witnesses;
    count = p.listed.count ∙ are.count;
    layer = put_layer [] old are.layer (entry_of arc) p.number refl refl new p.entered fits p.listed;
    are = λ f there. elim (put.made f there) [
      | inl now ↦ (ap (λ (y : Entry). y.via) now, subst (λ (y : Entry). Leads n.arcs y.from y.to y.weight) (sym now) listed)
      | inr was ↦ are.are f was
    ];
    all = All-more (λ (a : Arc). HasEntry new.entries.items a.from a.to a.ms) n.arcs k arc lt kept
        (subst (λ (a : Arc). HasEntry new.entries.items a.from a.to a.ms) (sym (is arc)) (None, put.there));
  } where
    put : IsPut old.entries.items new.entries.items (entry_of arc)
    put = put_is [] old are.layer (entry_of arc) p.number refl refl new p.entered

    fits : FitsRows (length old.rows.items) (entry_of arc)
    fits =
        let r = road n network arc.from arc.to arc.ms listed in
        let joins = All-contains (λ (a : Arc). joins_modes n.roads a ≡ true) n.arcs arc network.arcs_join listed in
        let low = r.light in
        record { differ = (arc_fits n arc joins arc.ms None (omega arith)).differ; from = arc_low.0; to = arc_low.1; positive = r.positive; light = omega arith }

    kept : All (λ (a : Arc). HasEntry new.entries.items a.from a.to a.ms) (take k n.arcs)
    kept j d low =
        let a = get_or (take k n.arcs) j d in
        let before : j < k = omega (arith, length-take k n.arcs) in
        let there : a ≡ get_or n.arcs j d = get_or-take k n.arcs j d before in
        let has = are.all j d low in
        elim (put.kept (record { from = a.from; to = a.to; weight = a.ms; via = has.0 }) has.1) [
          | inl still ↦ (has.0, still)
          | inr same ↦ absurd (same_arc n network j k d before lt (ap (λ (y : Arc). y.from) (sym there) ∙ same.0 ∙ ap (λ (y : Arc). y.from) (sym (is d))) (ap (λ (y : Arc). y.to) (sym there) ∙ same.1 ∙ ap (λ (y : Arc). y.to) (sym (is d))))
        ]

-- all arcs are entries: a sound hierarchy without an order
pub begun : (n : NetworkLists) (layer : Layer) (k : ℕ) → IsNetwork n → length n.arcs ≤ k → AreArcs n k layer → IsState n layer
begun n layer k network all are = record {
  good = record {
    sound = record {
      in_order = subst (λ (o : List ℕ). HoldsBelow (length o) (MayStandAt n o)) (sym are.order) (λ j low. absurd (omega arith));
      in_layers = λ j d low. (let e = get_or layer.entries.items j d in
          let it = are.are e (Contains-get_or layer.entries.items j d low) in
          let joins = All-contains (λ (a : Arc). joins_modes n.roads a ≡ true) n.arcs (record { from = e.from; to = e.to; ms = e.weight }) network.arcs_join it.1 in
          let r = road n network e.from e.to e.weight it.1 in
          let light = r.light in
          arc_fits n (record { from = e.from; to = e.to; ms = e.weight }) joins e.weight e.via (omega arith));
      arcs_covered = λ j d low. (let arc = get_or n.arcs j d in
          let has = subst (λ arcs. All (λ (a : Arc). HasEntry layer.entries.items a.from a.to a.ms) arcs) (take_all k n.arcs all) are.all j d low in
          (arc.ms, has, omega arith));
      made = λ j d low. (let e = get_or layer.entries.items j d in
          let it = are.are e (Contains-get_or layer.entries.items j d low) in
          made_none e it.0 it.1);
      bridged = subst (λ (o : List ℕ). All (NodeIsBridged (lists_of layer)) o) (sym are.order) (λ j d low. absurd (omega arith));
    };
    true_weights = λ j d low made. absurd (made (are.are (get_or layer.entries.items j d) (Contains-get_or layer.entries.items j d low)).0);
    apart = are.layer.apart;
  };
  layer = subst (λ o. IsLayer o layer) (sym are.order) are.layer;
  walks = subst (λ ws. AreWalks layer.order.items 0 [] 0 ws) (sym are.witnesses) (record { apart = λ i j d lt low. absurd (omega arith); fit = λ j d low. absurd (omega arith); each = λ j d low. absurd (omega arith) });
} where
  made_none : (e : Entry) → e.via ≡ None → Leads n.arcs e.from e.to e.weight → IsMade n (lists_of layer) e
  made_none e none leads = subst (IsMadeBy n (lists_of layer) e) (sym none) leads
