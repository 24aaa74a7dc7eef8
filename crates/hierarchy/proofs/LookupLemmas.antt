-- What a binary search finds among entries and witnesses.
use Rattle.plan_base.proofs.Common.{◌≡◌, ℕ, ◌+◌, ◌-◌, ◌<◌, ◌≤◌, ◌⊎◌, inl, inr, ◌∙◌, List, length, get_or, refl, ap, sym, subst, arith, Option, Some, Contains, slice_range, IsNonDecreasingBy, IsPartitionPoint, ordering_then, ordering_index, nat_cmp, MatchOrdering, IsTotalOrder, ranks as nat_ranks, cases_lt, then_total, on_total, nat_cmp_total, tied_itself, get_or_default, exact_unsigned, slice_get-get_or, Ordering, Less, Equal, Greater}
use Rattle.mode_network.proofs.{KeyLemmas.first_less, FindLemmas.answers_rise, FindLemmas.not_there, FindLemmas.same_ends}
use Rattle.hierarchy.specs.{Entry, WitnessLists, first_of, last_of, entry_cmp, witness_cmp, HasEntry, AreFrom, IsEntryFor, HasNoEntry, IsWitnessFor, HasNoWitness, from_of}
use Rattle.mode_network.specs.{IsAscending}
use Rattle.hierarchy.proofs.PlaceLemmas.{range_length, range_read}

-- ---- entries

pub entry_total : IsTotalOrder entry_cmp
entry_total = then_total (on_total (λ (e : Entry). e.from) nat_cmp_total) (on_total (λ (e : Entry). e.to) nat_cmp_total)

equal_ends : (u v : ℕ) → ordering_then (nat_cmp u u) (nat_cmp v v) ≡ Equal
equal_ends u v = rw (tied_itself nat_cmp_total u) (tied_itself nat_cmp_total v)

-- a search for the end of an entry
abbrev pub end_cmp : ℕ → Entry → Ordering
end_cmp v e = nat_cmp e.to v

abbrev by_end : Entry → Entry → Ordering
by_end a b = nat_cmp a.to b.to

ends_total : IsTotalOrder by_end
ends_total = on_total (λ (e : Entry). e.to) nat_cmp_total

abbrev entry_of : ℕ → ℕ → ℕ → Option ℕ → Entry
entry_of u v weight via = record { from = u; to = v; weight = weight; via = via }

-- among the entries from one node
module _ (entries : List Entry) (u low high : ℕ) (are : AreFrom entries u low high) where
  abbrev row : List Entry
  row = slice_range entries low high

  long : length row ≡ high - low
  long = range_length entries low high are.in_order are.within

  at : (k : ℕ) (d : Entry) → k < length row → get_or row k d ≡ get_or entries (low + k) d
  at k d lt = range_read entries low high are.in_order are.within k d (omega (arith, long))

  from_is : (k : ℕ) (d : Entry) → k < length row → (get_or row k d).from ≡ u
  from_is k d lt =
      let inside : low + k < high = omega (arith, long) in
      ap from_of (at k d lt) ∙ are.inside (low + k) (get_or entries (low + k) d) (omega arith) inside (slice_get-get_or entries (low + k) d (omega (arith, are.within)))

  -- they ascend by their ends
  ends_ascend : IsAscending entry_cmp entries → IsAscending by_end row
  ends_ascend ascend i j d before lt =
      let less : entry_cmp (get_or row i d) (get_or row j d) ≡ Less = rw (at i d (omega arith), at j d lt) (ascend (low + i) (low + j) d (omega arith) (omega (arith, long, are.within, are.in_order))) in
      subst (λ (o : Ordering). ordering_then o (by_end (get_or row i d) (get_or row j d)) ≡ Less)
      (ap (λ k. nat_cmp k (get_or row j d).from) (from_is i d (omega arith)) ∙ ap (nat_cmp u) (from_is j d lt) ∙ tied_itself nat_cmp_total u) less

  pub entry_found : (v place : ℕ) (e : Entry) → place < length row → e ≡ get_or row place e → end_cmp v e ≡ Equal → IsEntryFor entries u v e
  entry_found v place e lt is same = record {
    listed = (low + place, omega (arith, long, are.within, are.in_order), sym (is ∙ at place e lt));
    from = ap from_of is ∙ from_is place e lt;
    to = exact_unsigned e.to v same;
  }

  pub entry_missing : IsAscending entry_cmp entries → (v place : ℕ)
      → (IsNonDecreasingBy (λ e. ordering_index (end_cmp v e)) row → IsPartitionPoint (λ e. end_cmp v e ≡ Less) (λ e. end_cmp v e ≡ Greater) row place)
      → HasNoEntry entries u v
  entry_missing ascend v place ended weight (via, (k, lt, is)) =
      let e = entry_of u v weight via in
      let there = are.all k e (slice_get-get_or entries k e lt ∙ ap Some is) refl in
      let back : low + (k - low) ≡ k = omega (arith, there) in
      let inside : k - low < length row = omega (arith, there, long) in
      not_there by_end ends_total row (ends_ascend ascend) e place (ended (answers_rise by_end ends_total row (ends_ascend ascend) e)) (k - low) e inside
      (ap (end_cmp v) (at (k - low) e inside ∙ ap (λ i. get_or entries i e) back ∙ is) ∙ tied_itself nat_cmp_total v)

-- an entry that stands before another begins at no later node
pub from_rises : (entries : List Entry) → IsAscending entry_cmp entries → IsNonDecreasingBy from_of entries
from_rises entries ascend i j d le lt = elim (cases_lt i j) [
  | inl before ↦ first_less (get_or entries i d).from (get_or entries j d).from (nat_cmp (get_or entries i d).to (get_or entries j d).to) (ascend i j d before lt)
  | inr after ↦ (let same : i ≡ j = omega arith in subst (λ k. (get_or entries i d).from ≤ (get_or entries k d).from) same (omega arith))
]

-- what is listed with the ends of an entry is that entry
pub entry_once : (entries : List Entry) → IsAscending entry_cmp entries → (a b : Entry) → Contains entries a → Contains entries b → a.from ≡ b.from → a.to ≡ b.to → a ≡ b
entry_once entries ascend a b (i, hi, at_i) (j, hj, at_j) from to = by_place (cases_lt i j) (cases_lt j i)
  where
    tied : entry_cmp a b ≡ Equal
    tied = rw (from, to) (equal_ends b.from b.to)

    tied_back : entry_cmp b a ≡ Equal
    tied_back = rw (from, to) (equal_ends b.from b.to)

    by_place : (i < j) ⊎ (j ≤ i) → (j < i) ⊎ (i ≤ j) → a ≡ b
    by_place (inl lt) back =
        let less : entry_cmp a b ≡ Less = subst (λ (x : Entry). entry_cmp x b ≡ Less) at_i (subst (λ (y : Entry). entry_cmp (get_or entries i a) y ≡ Less) (get_or_default entries j a b hj ∙ at_j) (ascend i j a lt hj)) in
        let clash : Less ≡ Equal = sym less ∙ tied in cc
    by_place (inr le) (inl lt) =
        let less : entry_cmp b a ≡ Less = subst (λ (x : Entry). entry_cmp x a ≡ Less) at_j (subst (λ (y : Entry). entry_cmp (get_or entries j b) y ≡ Less) (get_or_default entries i b a hi ∙ at_i) (ascend j i b lt hi)) in
        let clash : Less ≡ Equal = sym less ∙ tied_back in cc
    by_place (inr le) (inr ge) =
        let same : i ≡ j = omega arith in
        sym at_i ∙ ap (λ k. get_or entries k a) same ∙ get_or_default entries j a b hj ∙ at_j

-- so a pair of nodes has one weight
pub weight_once : (entries : List Entry) → IsAscending entry_cmp entries → (u v a b : ℕ) → HasEntry entries u v a → HasEntry entries u v b → a ≡ b
weight_once entries ascend u v a b (p, first) (q, second) =
    ap (λ (e : Entry). e.weight) (entry_once entries ascend (entry_of u v a p) (entry_of u v b q) first second refl refl)

-- ---- witnesses

pub witness_total : IsTotalOrder witness_cmp
witness_total =
    then_total (then_total (on_total (λ (w : WitnessLists). w.below) nat_cmp_total) (on_total (λ (w : WitnessLists). first_of w.nodes) nat_cmp_total))
    (on_total (λ (w : WitnessLists). last_of w.nodes) nat_cmp_total)

abbrev pub walk_cmp : ℕ → ℕ → ℕ → WitnessLists → Ordering
walk_cmp below first last w = ordering_then (ordering_then (nat_cmp w.below below) (nat_cmp (first_of w.nodes) first)) (nat_cmp (last_of w.nodes) last)

same_three : (a u b v c w : ℕ) → ordering_then (ordering_then (nat_cmp a u) (nat_cmp b v)) (nat_cmp c w) ≡ Equal → (a ≡ u) × (b ≡ v) × (c ≡ w)
same_three a u b v c w e = by_first (ordering_then (nat_cmp a u) (nat_cmp b v)) refl e
  where
    by_last : (o : Ordering) → MatchOrdering o (c < w) (c ≡ w) (w < c) → o ≡ Equal → c ≡ w
    by_last Less h e = cc
    by_last Equal h e = h
    by_last Greater h e = cc

    by_first : (o : Ordering) → ordering_then (nat_cmp a u) (nat_cmp b v) ≡ o → ordering_then o (nat_cmp c w) ≡ Equal → (a ≡ u) × (b ≡ v) × (c ≡ w)
    by_first Less h e = cc
    by_first Equal h e = let ends = same_ends a u b v h in (ends.0, ends.1, by_last (nat_cmp c w) (nat_ranks c w) e)
    by_first Greater h e = cc

pub witness_found : (witnesses : List WitnessLists) (below first last place : ℕ) (w : WitnessLists) → place < length witnesses → get_or witnesses place w ≡ w → walk_cmp below first last w ≡ Equal
    → IsWitnessFor witnesses below first last w
witness_found witnesses below first last place w lt is same =
    let three = same_three w.below below (first_of w.nodes) first (last_of w.nodes) last same in
    record { listed = (place, lt, is); below_is = three.0; first_is = three.1; last_is = three.2 }

-- a search for a walk is one for any walk with these ends
pub witness_missing : (witnesses : List WitnessLists) → IsAscending witness_cmp witnesses → (below first last place : ℕ)
    → (IsNonDecreasingBy (λ w. ordering_index (walk_cmp below first last w)) witnesses
    → IsPartitionPoint (λ w. walk_cmp below first last w ≡ Less) (λ w. walk_cmp below first last w ≡ Greater) witnesses place)
    → HasNoWitness witnesses below first last
witness_missing witnesses ascend below first last place ended w is =
    let listed = is.listed in
    not_there witness_cmp witness_total witnesses ascend w place (as_walk (λ b f l. IsNonDecreasingBy (λ y. ordering_index (walk_cmp b f l y)) witnesses
    → IsPartitionPoint (λ y. walk_cmp b f l y ≡ Less) (λ y. walk_cmp b f l y ≡ Greater) witnesses place) ended (answers_rise witness_cmp witness_total witnesses ascend w)) listed.0 w listed.1
    (subst (λ (x : WitnessLists). witness_cmp x w ≡ Equal) (sym listed.2) (tied_itself witness_total w))
  where
    as_walk : (P : ℕ → ℕ → ℕ → Type 0) → P below first last → P w.below (first_of w.nodes) (last_of w.nodes)
    as_walk P holds =
        subst (λ b. P b (first_of w.nodes) (last_of w.nodes)) (sym is.below_is)
        (subst (λ f. P below f (last_of w.nodes)) (sym is.first_is) (subst (λ l. P below first l) (sym is.last_is) holds))
