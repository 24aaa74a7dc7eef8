use Rattle.plan_base.proofs.Common.{◌≡◌, ℕ, ◌<◌, ◌≤◌, length, slice_index_or, AllWithin}
use Rattle.mode_network.specs.{NodeRow, node_row}
use Rattle.mode_network.proofs.indexes.rows.Given as goal

abbrev pub invariant-loop-v : goal.invariant-loop-v
invariant-loop-v l = record {
  arc_within : l.arc ≤ length l.arcs;
  arcs_below : AllWithin (λ arc. arc.from < l.v) l.arcs 0 l.arc;
  link_within : l.link ≤ length l.links;
  links_below : AllWithin (λ link. link.from < l.v) l.links 0 l.link;
  so_far : length l.rows.items ≡ l.v;
  are : (w : ℕ) (d : NodeRow) → w < l.v → slice_index_or l.rows.items w d ≡ node_row l.roads l.arcs l.links w;
}
