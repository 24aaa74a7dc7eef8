use Rattle.plan_base.proofs.Common.{◌≡◌, ◌<◌, List, ℕ, None, get_or, length, map, arith, subst, sym, get_or_default, get_or-map, length-map}
use Rattle.hierarchy.specs.{Entry, Fall, HierarchyLists, ArePlaces, FallsTo, falls_into, place_of_fall, PairIsBridged, PairsAreBridged, FailsFirst}
use Rattle.hierarchy.proofs.FallLemmas.{are_falls_in}
use Rattle.hierarchy_check.proofs.BridgeLemmas.{first_unbridged_at, more_so_far, node_bridged}
use Rattle.hierarchy_check.proofs.bridges.unbridged_at.Goals as goal

abbrev nothing : Entry
nothing = record { from = 0; to = 0; weight = 0; via = None }

abbrev none : Fall
none = record { from = 0; place = 0; weight = 0 }

-- the entries to x stand at the places of its falls
into_places : (h : HierarchyLists) (x : ℕ) (falls : List Fall) → falls ≡ falls_into h x → ArePlaces (FallsTo h.order x) h.entries (map place_of_fall falls)
into_places h x falls are = subst (λ (fs : List Fall). ArePlaces (FallsTo h.order x) h.entries (map place_of_fall fs)) (sym are) (are_falls_in h.order h.entries x)

-- the place of the next fall is the next place
next_place : (falls : List Fall) (i : ℕ) → i < length falls → (get_or falls i none).place ≡ get_or (map place_of_fall falls) i (get_or falls i none).place
next_place falls i lt = sym (get_or-map place_of_fall falls i none (get_or falls i none).place lt)

-- and an entry stands there
stands : (h : HierarchyLists) (x : ℕ) (falls : List Fall) → falls ≡ falls_into h x → (i : ℕ) → i < length falls → (get_or falls i none).place < length h.entries
stands h x falls are i lt =
    subst (λ k. k < length h.entries) (sym (next_place falls i lt)) ((into_places h x falls are).within i (get_or falls i none).place (omega (arith, length-map falls place_of_fall)))

pub bounds-entries-fall : goal.bounds-entries-fall
bounds-entries-fall c =
    rw c.entries-entries.ensures (stands c.args.h.now c.args.x c.falls_into-fall-items.result.now c.falls_into-fall-items.ensures c.loop-fall.fall-index c.loop-fall-test.true)

pub returns-in-Some : goal.returns-in-Some
returns-in-Some c =
    let falls = c.falls_into-fall-items.result.now in
    let are = c.falls_into-fall-items.ensures in
    let i = c.loop-fall.fall-index in
    let lt = c.loop-fall-test.true in
    let at = (get_or falls i none).place in
    first_unbridged_at c.args.h.now c.args.x (map place_of_fall falls) (into_places c.args.h.now c.args.x falls are) i at c.in-Some.by nothing (next_place falls i lt)
    (omega (arith, lt, length-map falls place_of_fall)) (stands c.args.h.now c.args.x falls are i lt) c.loop-fall.invariant
    (subst (λ (entries : List Entry). FailsFirst (PairIsBridged c.args.h.now c.args.x (get_or entries at nothing)) c.args.h.now.entries c.in-Some.by) c.entries-entries.ensures c.in-Some.ensures)

pub loop-fall-preserved : goal.loop-fall-preserved
loop-fall-preserved c =
    let falls = c.falls_into-fall-items.result.now in
    let are = c.falls_into-fall-items.ensures in
    let i = c.loop-fall.fall-index in
    let lt = c.loop-fall-test.true in
    let at = (get_or falls i none).place in
    more_so_far c.args.h.now c.args.x (map place_of_fall falls) (into_places c.args.h.now c.args.x falls are) i at (next_place falls i lt) (omega (arith, lt, length-map falls place_of_fall)) c.loop-fall.invariant
    (λ d. subst (PairsAreBridged c.args.h.now c.args.x) (get_or_default c.args.h.now.entries at nothing d (stands c.args.h.now c.args.x falls are i lt))
    (subst (λ (entries : List Entry). PairsAreBridged c.args.h.now c.args.x (get_or entries at nothing)) c.entries-entries.ensures c.in_default.ensures))

pub returns : goal.returns
returns c =
    let falls = c.falls_into-fall-items.result.now in
    let long = length-map falls place_of_fall in
    node_bridged c.args.h.now c.args.x (map place_of_fall falls) (into_places c.args.h.now c.args.x falls c.falls_into-fall-items.ensures) c.loop-fall.fall-index (omega (arith, long, c.loop-fall-test.false)) (omega arith) c.loop-fall.invariant
