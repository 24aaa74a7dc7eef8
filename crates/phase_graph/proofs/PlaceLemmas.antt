-- Where the arcs of each kind stand among those of a node of the phase graph.
use Rattle.plan_base.proofs.Common.{◌≡◌, ℕ, ◌+◌, ◌-◌, ◌<◌, ◌≤◌, ◌∙◌, Bool, true, false, length, get_or, refl, ap, arith, lt-ltb, le-ltb}
use Rattle.timetable_arcs.specs.{TableLists}
use Rattle.mode_network.specs.NetworkLists.{NetworkLists}
use Rattle.hierarchy.specs.{HierarchyLists}
use Rattle.plain_graph.specs.{arcs_at}
use Rattle.phase_graph.specs.{Up, Down, Other, phase_arc, rises_at, first_entry, entries_at, first_other, others_at}

module _ (n : NetworkLists) (h : HierarchyLists) (v : ℕ) (down : Bool) where
  abbrev ups : ℕ
  ups = length (rises_at h v down)

  abbrev downs : ℕ
  downs = entries_at h v

  pub up_known : (i : ℕ) → i < ups → phase_arc n h v down i ≡ Up (get_or (rises_at h v down) i 0)
  up_known i lt = rw (lt-ltb i ups lt) refl

  pub down_known : (i : ℕ) → ups ≤ i → i - ups < downs → phase_arc n h v down i ≡ Down (first_entry h v + (i - ups))
  down_known i past lt = rw (le-ltb i ups past, lt-ltb (i - ups) downs lt) refl

  pub other_known : (i : ℕ) → ups ≤ i → downs ≤ i - ups → phase_arc n h v down i ≡ Other (first_other n v down + (i - ups - downs))
  other_known i past behind = rw (le-ltb i ups past, le-ltb (i - ups) downs behind) refl

  pub up_is : (i place : ℕ) → i < ups → (get_or (rises_at h v down) i 0) ≡ place → phase_arc n h v down i ≡ Up place
  up_is i place lt e = up_known i lt ∙ ap Up e

  pub down_is : (i place : ℕ) → i < downs → first_entry h v + i ≡ place → phase_arc n h v down (ups + i) ≡ Down place
  down_is i place lt e =
      let back : ups + i - ups ≡ i = omega arith in
      down_known (ups + i) (omega arith) (omega (arith, lt)) ∙ ap (λ k. Down (first_entry h v + k)) back ∙ ap Down e

  pub other_is : (place : ℕ) → first_other n v down ≤ place → phase_arc n h v down (ups + downs + (place - first_other n v down)) ≡ Other place
  other_is place le =
      let i = ups + downs + (place - first_other n v down) in
      let back : first_other n v down + (i - ups - downs) ≡ place = omega (arith, le) in
      other_known i (omega arith) (omega arith) ∙ ap Other back

-- the arcs in common with the plain graph are its arcs
pub other_fits : (n : NetworkLists) (t : TableLists) (v : ℕ) (down : Bool) (k : ℕ) → k < others_at n t v down → first_other n v down + k < arcs_at n t v
other_fits n t v false k lt = omega (arith, lt)
other_fits n t v true k lt = omega (arith, lt)
