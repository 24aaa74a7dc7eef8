use Rattle.plan_base.proofs.Common.{◌≡◌, ◌∙◌, ◌+◌, ◌-◌, ◌<◌, [], ◌∷◌, ◌++◌, ◌^◌, Bool, List, ℕ, true, length, drop, get_or, set, ap, arith, lt-ltb, refl, subst, sym, All, nat_lt, drop_all, drop_more, get_or_default, get_or-map, length-map, slice_get-get_or}
use Rattle.std.proofs.Math.Seq.{map-set_same}
use Rattle.hierarchy.specs.{Fall, HierarchyLists, entry_at, fall_at, falls_into, no_entry, number_before, IsHierarchy}
use Rattle.hierarchy.proofs.FallLemmas.{into_node}
use Rattle.phase_graph.specs.{has_mark, marks_in, inside.AreChains, inside.IsFallAt, inside.places_into, inside.number_at}
use Rattle.phase_graph.proofs.{FallLemmas.chains_more, FallLemmas.leaves_marked, MarkLemmas.number_if_marked, MarkLemmas.number_within}
use Rattle.phase_graph.proofs.falls.FallChains.put_into.Goals as goal

abbrev none : Fall
none = record { from = 0; place = 0; weight = 0 }

-- the falls to x stand at these places
as_many : (h : HierarchyLists) (x : ℕ) (falls : List Fall) → falls ≡ falls_into h x → length falls ≡ length (places_into h x)
as_many h x falls are = ap length are ∙ length-map (places_into h x) (fall_at h.entries)

fall_is : (h : HierarchyLists) (x : ℕ) (falls : List Fall) → falls ≡ falls_into h x → (i : ℕ) → i < length falls → get_or falls i none ≡ fall_at h.entries (get_or (places_into h x) i 0)
fall_is h x falls are i lt = ap (λ (fs : List Fall). get_or fs i none) are ∙ get_or-map (fall_at h.entries) (places_into h x) i 0 none (omega (arith, as_many h x falls are))

-- and each of them ends at x
ends_there : (h : HierarchyLists) (x i : ℕ) → i < length (places_into h x) → (entry_at h.entries (get_or (places_into h x) i 0)).to ≡ x
ends_there h x i lt =
    let into = into_node h.order h.entries x in
    let place = get_or (places_into h x) i 0 in
    (into.each place (entry_at h.entries place) (i, lt, get_or_default (places_into h x) i place 0 lt) (slice_get-get_or h.entries place no_entry (into.within i 0 lt))).ends

ends_low : (h : HierarchyLists) → IsHierarchy h → (x i : ℕ) → i < length (places_into h x) → x < 2 ^ 24
ends_low h rules x i lt =
    let place = get_or (places_into h x) i 0 in
    subst (λ v. v < 2 ^ 24) (ends_there h x i lt) (rules.entries_fit place no_entry ((into_node h.order h.entries x).within i 0 lt)).to

-- the node that a fall leaves has a mark
leaves : (h : HierarchyLists) (first0 first : List ℕ) → marks_in first ≡ marks_in first0 → (x : ℕ) → All (IsFallAt h (marks_in first0)) (places_into h x) → (i : ℕ) → i < length (places_into h x)
    → 0 < number_at first (entry_at h.entries (get_or (places_into h x) i 0)).from
leaves h first0 first same x falls i lt =
    let place = get_or (places_into h x) i 0 in
    let v = (entry_at h.entries place).from in
    number_if_marked first v (subst (λ (marks : List Bool). has_mark marks v ≡ true) (sym same) (leaves_marked h (marks_in first0) place (falls i 0 lt)))

pub loop-left-init : goal.loop-left-init
loop-left-init c =
    let h = c.args.h.now in
    let falls = c.falls_into-falls.result.now in
    let long = as_many h c.args.x falls c.falls_into-falls.ensures in
    rw (drop_all (length falls) (places_into h c.args.x) (omega (arith, long))) (record { chains = λ places chains. chains; marks = refl })

pub number_of-requires : goal.number_of-requires
number_of-requires c =
    let h = c.args.h.now in
    let long = as_many h c.args.x c.falls_into-falls.result.now c.falls_into-falls.ensures in
    let low = ends_low h c.known.ensures c.args.x (c.loop-left.left - 1) (omega (arith, long, c.loop-left-test.true, c.loop-left.auto.left)) in
    omega (arith, low)

pub put-requires : goal.put-requires
put-requires c =
    let h = c.args.h.now in
    let i = c.loop-left.left - 1 in
    let falls = c.falls_into-falls.result.now in
    let long = as_many h c.args.x falls c.falls_into-falls.ensures in
    let lt : i < length falls = omega (arith, c.loop-left-test.true, c.loop-left.auto.left) in
    rw (fall_is h c.args.x falls c.falls_into-falls.ensures i lt)
    (number_within c.loop-left.self.first.items (entry_at h.entries (get_or (places_into h c.args.x) i 0)).from
    (leaves h c.args.self.now.first.items c.loop-left.self.first.items c.loop-left.invariant.marks c.args.x c.requires i (omega (arith, lt, long))))

pub loop-left-preserved : goal.loop-left-preserved
loop-left-preserved c =
    let h = c.args.h.now in
    let x = c.args.x in
    let i = c.loop-left.left - 1 in
    let falls = c.falls_into-falls.result.now in
    let places = places_into h x in
    let place = get_or places i 0 in
    let from = (entry_at h.entries place).from in
    let all = c.loop-left.self.all.items in
    let first = c.loop-left.self.first.items in
    let inv = c.loop-left.invariant in
    let long = as_many h x falls c.falls_into-falls.ensures in
    let lt : i < length falls = omega (arith, c.loop-left-test.true, c.loop-left.auto.left) in
    let inside : i < length places = omega (arith, lt, long) in
    let some = leaves h c.args.self.now.first.items first inv.marks x c.requires i inside in
    let on : i + 1 ≡ c.loop-left.left = omega (arith, c.loop-left-test.true) in
    let next : drop i places ≡ place ∷ drop c.loop-left.left places = drop_more places i 0 inside ∙ ap (λ (k : ℕ). place ∷ drop k places) on in
    let put = c.in_ok-put.ensures in
    rw (put.all, put.first, c.number_of.ensures, fall_is h x falls c.falls_into-falls.ensures i lt, next) (record {
      chains = λ others chains. subst (λ v. AreChains h (place ∷ (drop c.loop-left.left places ++ others)) (all ++ record { fall = record { place = place; to = number_before v + 1; weight = (entry_at h.entries place).weight }; next = get_or first from 0 } ∷ []) (set first from (length all + 2)))
          (ends_there h x i inside)
          (chains_more h place (drop c.loop-left.left places ++ others) all first (number_within first from some) (inv.chains others chains));
      marks = map-set_same (λ number. nat_lt 0 number) first from (length all + 2) 0 (lt-ltb 0 (length all + 2) (omega arith) ∙ sym (lt-ltb 0 (get_or first from 0) some)) ∙ inv.marks;
    })

pub returns : goal.returns
returns c =
    let h = c.args.h.now in
    let inv = c.loop-left.invariant in
    let start : c.loop-left.left ≡ 0 = omega (arith, c.loop-left-test.false) in
    record {
      chains = subst (λ (k : ℕ). (places : List ℕ) → AreChains h places c.args.self.now.all.items c.args.self.now.first.items → AreChains h (drop k (places_into h c.args.x) ++ places) c.loop-left.self.all.items c.loop-left.self.first.items) start inv.chains;
      marks = inv.marks;
    }
