use Rattle.plan_base.proofs.Common.{◌≡◌, ◌≢◌, ◌<◌, ◌^◌, ℕ, ◌-◌, length, All, slice_index}
use Rattle.sweeps.specs.inside.{ArePlacesOf}
use Rattle.sweeps.proofs.places.place_table.Given as goal

-- the first i nodes have their places, and nothing else is in the table
abbrev pub invariant-loop-i : goal.invariant-loop-i
invariant-loop-i l = record {
  wide : All (λ v. v < 2 ^ 24 → v < length l.places.items) l.nodes;
  are : ArePlacesOf l.nodes l.i l.places.items;
  back : (v : ℕ) → v < length l.places.items → slice_index l.places.items v ≢ 2 ^ 32 - 1 → (j : ℕ) × (j < l.i) × (slice_index l.nodes j ≡ v);
}
