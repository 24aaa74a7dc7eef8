-- Lists of edges, one for each node, are rows.
use Rattle.plan_base.proofs.Common.{◌≡◌, ℕ, ◌≤◌, ◌^◌, List, length, Option, Some, None, refl, sym, subst, arith, All, Contains, Vec, slice_get, Global, All-contains}
use Rattle.witness.specs.{Edge, AreEdgeRows, IsEdgeOf, items_of}
use Rattle.contractor.proofs.ListLemmas.{none_in, contains_place}

pub edge_rows : (nodes : ℕ) (rows : List (Vec Edge Global)) → length rows ≡ nodes → nodes ≤ 2 ^ 24
    → All (λ (row : Vec Edge Global). All (IsEdgeOf nodes) row.items) rows → AreEdgeRows rows
edge_rows nodes rows one_each few all = record {
  few = omega (arith, one_each);
  edges = λ u edge there. in_row u edge (slice_get rows u) refl there;
} where
  in_row : (u : ℕ) (edge : Edge) (row : Option (Vec Edge Global)) → slice_get rows u ≡ row → Contains (items_of row) edge → IsEdgeOf (length rows) edge
  in_row u edge None at there = absurd (none_in edge there)
  in_row u edge (Some row) at there =
      let edges = All-contains (λ (r : Vec Edge Global). All (IsEdgeOf nodes) r.items) rows row all (contains_place rows u row at) in
      subst (λ (k : ℕ). IsEdgeOf k edge) (sym one_each) (All-contains (IsEdgeOf nodes) row.items edge edges there)
