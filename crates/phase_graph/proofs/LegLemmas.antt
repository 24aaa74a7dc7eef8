-- The legs out of a node of the phase graph tell of its first arcs.
use Rattle.plan_base.proofs.Common.{◌≡◌, ℕ, ◌+◌, ◌<◌, ◌≤◌, ◌∙◌, cond, Bool, true, false, [], length, map, get_or, Some, refl, ap, arith, sym, get_or-map, length-map}
use Rattle.search_laws.specs.{IsLeg, Leg}
use Rattle.timetable_arcs.specs.{TableLists}
use Rattle.mode_network.specs.NetworkLists.{NetworkLists}
use Rattle.hierarchy.specs.{HierarchyLists, IsHierarchy, Rise, has_legs, leg_of, legs_from, number_before, place_of, rise_places_from, rises_of, entry_at, no_entry}
use Rattle.hierarchy.proofs.RiseLemmas.{are_rises_from}
use Rattle.phase_graph.specs.{PhaseArc, arc_of, is_down, legs_at, node_of, phase_arrival, phase_meaning, rises_at}
use Rattle.phase_graph.proofs.PlaceLemmas.{up_known}

module _ (h : HierarchyLists) (v : ℕ) where
  -- where the hierarchy has legs there is one for each entry that leads up
  pub legs_whole : (down : Bool) → has_legs h ≡ true → length (legs_at h v down) ≡ length (rises_at h v down)
  legs_whole true has = refl
  legs_whole false has =
      ap (λ b. length (cond b (map leg_of (rises_of h v)) [])) has ∙ length-map (rises_of h v) leg_of ∙ sym (length-map (rises_of h v) place_of)

  pub legs_none : (down : Bool) → has_legs h ≡ false → length (legs_at h v down) ≡ 0
  legs_none true none = refl
  legs_none false none = ap (λ b. length (cond b (map leg_of (rises_of h v)) [])) none

  pub legs_few : (down : Bool) → length (legs_at h v down) ≤ length (rises_at h v down)
  legs_few down = by_test (has_legs h) refl where
    by_test : (b : Bool) → has_legs h ≡ b → length (legs_at h v down) ≤ length (rises_at h v down)
    by_test true has = omega (arith, legs_whole down has)
    by_test false none = omega (arith, legs_none down none)

  abbrev nothing : Rise
  nothing = record { from = 0; to = 0; place = 0; weight = 0 }

  -- the entry at the place, as a leg
  abbrev pub entry_leg : ℕ → Leg
  entry_leg place = record { to = number_before (entry_at h.entries place).to; ms = (entry_at h.entries place).weight }

  pub leg_told : IsHierarchy h → (down : Bool) (i : ℕ) (d : Leg) → i < length (legs_at h v down) → get_or (legs_at h v down) i d ≡ entry_leg (get_or (rises_at h v down) i 0)
  leg_told rules true i d lt = absurd (omega arith)
  leg_told rules false i d lt = by_test (has_legs h) refl where
    by_test : (b : Bool) → has_legs h ≡ b → get_or (legs_from h v) i d ≡ entry_leg (get_or (rise_places_from h v) i 0)
    by_test false none = absurd (omega (arith, lt, legs_none false none))
    by_test true has =
        let inside : i < length (rises_of h v) = omega (arith, lt, legs_whole false has, length-map (rises_of h v) place_of) in
        let rise = get_or (rises_of h v) i nothing in
        let of = (are_rises_from h rules v).each i nothing inside in
        let place : get_or (rise_places_from h v) i 0 ≡ rise.place = get_or-map place_of (rises_of h v) i nothing 0 inside in
        ap (λ b. get_or (cond b (map leg_of (rises_of h v)) []) i d) has ∙ get_or-map leg_of (rises_of h v) i nothing d inside
        ∙ sym (ap entry_leg place ∙ ap (λ to. record { to = number_before to; ms = (entry_at h.entries rise.place).weight }) (of.ends no_entry) ∙ ap (λ ms. record { to = number_before rise.to; ms = ms }) (of.weighs no_entry))

-- a leg tells of the arc at its place
pub leg_is : (n : NetworkLists) (h : HierarchyLists) (t : TableLists) → IsHierarchy h → (p i : ℕ) (d : Leg) (marks : _) → i < length (legs_at h (node_of p) (is_down p))
    → IsLeg (phase_meaning n t h marks) p i (get_or (legs_at h (node_of p) (is_down p)) i d)
leg_is n h t rules p i d marks lt =
    let v = node_of p in
    let down = is_down p in
    let leg = leg_told h v rules down i d lt in
    let up = up_known n h v down i (omega (arith, lt, legs_few h v down)) in
    record {
      to = ap (λ (l : Leg). l.to) leg ∙ sym (ap (λ (a : PhaseArc). (arc_of n t h v down a).to) up);
      time = λ time. ap (phase_arrival n t h marks v time) up ∙ sym (ap (λ (l : Leg). Some (time + l.ms)) leg);
    }
