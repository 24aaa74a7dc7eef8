-- Legs and falls of a hierarchy are entries, and entries that lead up or down are among them.
use Rattle.plan_base.proofs.Common.{◌≡◌, ℕ, ◌*◌, ◌<◌, ◌||◌, ◌&&◌, ◌∙◌, true, if◌then◌else◌, List, [], ◌∷◌, length, map, get_or, refl, sym, ap, subst, arith, Some, Contains, slice_get, All-contains, Contains-get_or, length-map, get_or-map, lt-ltb, slice_get-get_or, get_or_from_slice_get}
use Rattle.search_laws.specs.{Leg}
use Rattle.hierarchy.specs.{Hop, Entry, Rise, HierarchyLists, HasEntry, IsAbove, IsHierarchy, IsRiseOf, entry_at, fall_at, falls_into, falls_to, from_of, has_legs, is_core, is_rise, leg_of, legs_from, no_entry, number_before, places_of, rise_at, rises_of}
use Rattle.hierarchy.proofs.{FallLemmas.into_node, PlaceLemmas.Contains-map, RiseLemmas.are_rises_from}
use Rattle.sweeps.specs.Slopes.{leg_by}
use Rattle.sweeps.specs.Layers.{origin_of}

abbrev pub hop_by : ℕ → ℕ → Hop
hop_by to weight = record { to = to; weight = weight }

-- what is among all that is made is made of one of them
pub Contains-from_map : {X Y : Type 0} (f : X → Y) (xs : List X) (y : Y) → Contains (map f xs) y → (x : X) × Contains xs x × (f x ≡ y)
Contains-from_map f [] y (k, lt, at) = absurd (omega arith)
Contains-from_map f (x ∷ xs) y (k, lt, at) =
    let inside : k < length (x ∷ xs) = omega (arith, length-map (x ∷ xs) f) in
    (get_or (x ∷ xs) k x, Contains-get_or (x ∷ xs) k x inside, sym (get_or-map f (x ∷ xs) k x y inside) ∙ at)

pub has_entry : (entries : List Entry) (e : Entry) (u v w : ℕ) → Contains entries e → e.from ≡ u → e.to ≡ v → e.weight ≡ w → HasEntry entries u v w
has_entry entries e u v w there from to weighs = (
  e.via,
  subst (λ x. Contains entries (record { from = x; to = v; weight = w; via = e.via })) from
      (subst (λ x. Contains entries (record { from = e.from; to = x; weight = w; via = e.via })) to (subst (λ x. Contains entries (record { from = e.from; to = e.to; weight = x; via = e.via })) weighs there)),
)

module _ (h : HierarchyLists) where
  module _ (rules : IsHierarchy h) (short : has_legs h ≡ true) (u v w : ℕ) where
    pub leg_entry : Contains (legs_from h u) (leg_by (number_before v) w) → HasEntry h.entries u v w
    leg_entry there =
        let leg = leg_by (number_before v) w in
        let found = Contains-from_map leg_of (rises_of h u) leg (subst (λ b. Contains (if b then map leg_of (rises_of h u) else []) leg) short there) in
        let are = are_rises_from h rules u in
        let rise = found.0 in
        let is = All-contains (IsRiseOf h.order h.entries) (rises_of h u) rise are.each found.1 in
        let from : rise.from ≡ u = All-contains (λ (r : Rise). r.from ≡ u) (rises_of h u) rise are.from_u found.1 in
        let twice : 2 * rise.to ≡ 2 * v = ap (λ (l : Leg). l.to) found.2 in
        let to : rise.to ≡ v = omega (arith, twice) in
        has_entry h.entries (entry_at h.entries rise.place) u v w (Contains-get_or h.entries rise.place no_entry is.within)
        (is.begins no_entry ∙ from) (is.ends no_entry ∙ to) (is.weighs no_entry ∙ ap (λ (l : Leg). l.ms) found.2)

    -- an entry that leads up is a leg
    pub entry_leg : HasEntry h.entries u v w → IsAbove h.order v u → Contains (legs_from h u) (leg_by (number_before v) w)
    entry_leg (via, there) above =
        let e : Entry = record { from = u; to = v; weight = w; via = via } in
        let at = there.2 in
        let up : is_rise h.order (get_or h.entries there.0 e) ≡ true = ap (is_rise h.order) at ∙ ap (λ b. b || (is_core h.order u && is_core h.order v)) (lt-ltb _ _ above) in
        let rise = (are_rises_from h rules u).all there.0 e there.1 (ap from_of at) up in
        let leg = Contains-map leg_of (rises_of h u) (rise_at there.0 (get_or h.entries there.0 e)) rise in
        subst (λ b. Contains (if b then map leg_of (rises_of h u) else []) (leg_by (number_before v) w)) (sym short)
        (subst (λ (x : Entry). Contains (map leg_of (rises_of h u)) (leg_of (rise_at there.0 x))) at leg)

  module _ (u v w : ℕ) where
    pub fall_entry : Contains (map origin_of (falls_into h v)) (hop_by u w) → HasEntry h.entries u v w × IsAbove h.order u v
    fall_entry there =
        let places = places_of (falls_to h.order v) h.entries in
        let fall = Contains-from_map origin_of (falls_into h v) (hop_by u w) there in
        let found = Contains-from_map (fall_at h.entries) places fall.0 fall.1 in
        let are = into_node h.order h.entries v in
        let within : found.0 < length h.entries = All-contains (λ k. k < length h.entries) places found.0 are.within found.1 in
        let falls = are.each found.0 (entry_at h.entries found.0) found.1 (slice_get-get_or h.entries found.0 no_entry within) in
        let same = ap origin_of found.2 ∙ fall.2 in (
          has_entry h.entries (entry_at h.entries found.0) u v w (Contains-get_or h.entries found.0 no_entry within) (ap (λ (x : Hop). x.to) same) falls.ends (ap (λ (x : Hop). x.weight) same),
          subst (λ x. IsAbove h.order x v) (ap (λ (x : Hop). x.to) same) falls.above,
        )

    -- an entry that leads down is a fall
    pub entry_fall : HasEntry h.entries u v w → IsAbove h.order u v → Contains (map origin_of (falls_into h v)) (hop_by u w)
    entry_fall (via, there) above =
        let e : Entry = record { from = u; to = v; weight = w; via = via } in
        let is : slice_get h.entries there.0 ≡ Some e = slice_get-get_or h.entries there.0 e there.1 ∙ ap Some there.2 in
        let place = (into_node h.order h.entries v).all there.0 e is (record { ends = refl; above = above }) in
        let fall = Contains-map (fall_at h.entries) (places_of (falls_to h.order v) h.entries) there.0 place in
        subst (λ (x : Entry). Contains (map origin_of (falls_into h v)) (hop_by x.from x.weight)) (get_or_from_slice_get h.entries there.0 e no_entry is)
        (Contains-map origin_of (falls_into h v) (fall_at h.entries there.0) fall)
