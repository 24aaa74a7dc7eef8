-- The way back from a node that is reached.
use Rattle.plan_base.proofs.Common.{◌≡◌, ◌≢◌, ℕ, ◌+◌, ◌<◌, ◌≤◌, List, [], ◌∷◌, ◌++◌, ◌∙◌, get_or, Some, None, sym, ap, subst, arith, Option, reverse, slice_get, Vec, Global, get_or_from_slice_get, reverse-append}
use Rattle.witness.specs.{Edge, HasEdge, AreEdgeRows, declared.place.Place.Place, declared.workspace.Workspace.Workspace, inside.IsSearch, inside.NobodyBusy, inside.IsKnownNode, inside.Knows, inside.HasParent}
use Rattle.hierarchy.specs.{Hop, AreHops, total, nodes_along}

abbrev pub at_in : Option Place → ℕ
at_in None = 0
at_in (Some place) = place.at

-- the weight that is known of a node
abbrev pub at_of : Workspace → ℕ → ℕ
at_of w v = at_in (slice_get w.places.items v)

-- from the node hops lead to the end, within the limit together with what is known of the node; the nodes are those of the hops, from the end on
pub record IsBack (rows : List (Vec Edge Global)) (limit : ℕ) (w : Workspace) (end node : ℕ) (nodes : List ℕ) : Type 0 where
  pub known : IsKnownNode w node
  pub hops : List Hop
  pub walk : AreHops (HasEdge rows) node hops end
  pub within : at_of w node + total hops ≤ limit
  pub are : reverse nodes ≡ nodes_along node hops

at_is : (w : Workspace) (v at parent : ℕ) → Knows w v at parent → at_of w v ≡ at
at_is w v at parent known = ap at_in known

-- one node further back
module _ (rows : List (Vec Edge Global)) (most limit : ℕ) (w : Workspace) (are : AreEdgeRows rows) (s : IsSearch rows most NobodyBusy w) (end node : ℕ) (nodes : List ℕ) (back : IsBack rows limit w end node nodes) (other : node ≢ w.start)
    (place : Place) (is : place ≡ get_or w.places.items node place) where
  parent_is : back.known.1 ≡ place.parent
  parent_is = ap (λ (x : Place). x.parent) (sym (get_or_from_slice_get w.places.items node (record { at = back.known.0; parent = back.known.1; round = w.round }) place back.known.2) ∙ sym is)

  from : HasParent rows w node back.known.0 place.parent
  from = subst (HasParent rows w node back.known.0) parent_is (s.parents node back.known.0 back.known.1 back.known.2 other)

  lower_there : (at_of w place.parent ≤ from.before) × (from.before + from.weight ≡ at_of w node) × (0 < from.weight)
  lower_there =
      let r = from.reached in
      let edge = from.edge in (
        subst (λ k. k ≤ from.before) (sym (at_is w place.parent r.at r.parent r.known)) r.within,
        from.sum ∙ sym (at_is w node back.known.0 back.known.1 back.known.2),
        (are.edges place.parent (record { to = node; entry = edge.0; weight = from.weight }) edge.1).positive,
      )

  pub back_smaller : at_of w place.parent < at_of w node
  back_smaller = let l = lower_there in let a = l.0 in let b = l.1 in let c = l.2 in omega arith

  pub back_more : (more : List ℕ) → more ≡ nodes ++ place.parent ∷ [] → IsBack rows limit w end place.parent more
  back_more more pushed = record {
    known = (let r = from.reached in (r.at, r.parent, r.known));
    hops = record { to = node; weight = from.weight } ∷ back.hops;
    walk = (from.edge, back.walk);
    within = (let l = lower_there in let a = l.0 in let b = l.1 in let c = back.within in omega arith);
    are = ap reverse pushed ∙ reverse-append nodes (place.parent ∷ []) ∙ ap (λ ns. place.parent ∷ ns) back.are;
  }
