-- The destinations that are listed, and the arrivals at them.
use Rattle.plan_base.proofs.Common.{◌≡◌, ℕ, suc, ◌+◌, ◌-◌, ◌≤◌, ◌<◌, ◌⊎◌, inl, inr, min, ◌∙◌, List, [], ◌∷◌, ◌++◌, append_assoc, append-nil, length, length-append, length-drop, length-take, get_or, get_or-take, get_or-drop, Option, Some, None, refl, sym, ap, subst, arith, below_more, All, Contains, map, fold, slice_range, get_or-append_seam, cases_lt, get_or_append_left, get_or-append-add, get_or_default, length-map, Contains-append_left, Contains-append_right, Contains-append_cases, Contains-push_cases, Contains-get_or, All-contains, IfSome, ⊎_elim, subst₂, zero, flat_map-append}
use Rattle.std.proofs.Math.ListN.{get_or-map}
use Rattle.search_laws.specs.{GraphMeaning, LabelsMeaning, ArrivesAt}
use Rattle.product_search.specs.{IsArrival, AreArrivals}
use Rattle.hierarchy.specs.{HierarchyLists}
use Rattle.phase_graph.specs.{IsInUse, node_of, starts_in, target_numbers, ends_in, node_under, meaning_in_use}
use Rattle.phase_graph.proofs.InUseLemmas.{ends_under}
use Rattle.mode_expression.specs.{form_of}
use Rattle.mode_network.specs.{NetworkLists.NetworkLists, IsNetwork}
use Rattle.journey.specs.{Query, AreTheCopies}
use Rattle.certificate.specs.{AreDenoted}
use Rattle.descents.specs.{declared.descents.Descents.Descents, AreNodeArrivals, IsServed}
use Rattle.planning.specs.{Part, Listing, IsArrivalTo, AreArrivalsTo, asked_to, AddsDestination, AreDestinations, IsPartFor, ArePartsFor, DescendTo, IsArrivalAround, AreArrivalsAround, AreNumberArrivals, earlier, earliest, earliest_in, hierarchy_searched, declared.destinations.Destinations.Destinations}
use Rattle.planning.proofs.ArrivalLemmas.{best_arrival}

-- ---- listing

module _ (n : NetworkLists) (h : Option HierarchyLists) where
  -- what is listed stays so
  still_part : (q : Option Query) (part : Part) (targets numbers more_targets more_numbers : List ℕ) → IsPartFor n h targets numbers q part
      → IsPartFor n h (targets ++ more_targets) (numbers ++ more_numbers) q part
  still_part q part targets numbers more_targets more_numbers is = record {
    copies = is.copies;
    are = is.are;
    inside = λ v there. Contains-append_left targets more_targets v (is.inside v there);
    before = is.before;
    after = is.after ++ more_numbers;
    numbers_are = ap (λ (xs : List ℕ). xs ++ more_numbers) is.numbers_are
        ∙ (append_assoc is.before (ends_in h is.copies ++ is.after) more_numbers ∙ ap (λ (xs : List ℕ). is.before ++ xs) (append_assoc (ends_in h is.copies) is.after more_numbers));
    first = is.first;
    end = is.end;
  }

  -- what is added is listed
  part_added : (q : Option Query) (old new : Listing) → AddsDestination n h q old new
      → IsPartFor n h new.targets.items new.numbers.items q (record { first = length old.numbers.items; end = length new.numbers.items })
  part_added q old new adds = record {
    copies = adds.copies;
    are = adds.are;
    inside = λ v there. subst (λ (ts : List ℕ). Contains ts v) (sym adds.targets) (Contains-append_right old.targets.items adds.copies v there);
    before = old.numbers.items;
    after = [];
    numbers_are = adds.numbers ∙ ap (λ (xs : List ℕ). old.numbers.items ++ xs) (sym (append-nil (ends_in h adds.copies)));
    first = refl;
    end = ap length adds.numbers ∙ length-append old.numbers.items (ends_in h adds.copies);
  }

  pub parts_more : (queries : List (Option Query)) (old new : Listing) (count : ℕ) → length old.parts.items ≡ count → ArePartsFor n h old.targets.items old.numbers.items queries old.parts.items count
      → AddsDestination n h (get_or queries count None) old new → ArePartsFor n h new.targets.items new.numbers.items queries new.parts.items (count + 1)
  parts_more queries old new count one_each are adds = below_more (λ k. (p : Part) → IsPartFor n h new.targets.items new.numbers.items (get_or queries k None) (get_or new.parts.items k p)) count
      (λ k lt p.
      let same : get_or new.parts.items k p ≡ get_or old.parts.items k p =
      ap (λ (ps : List Part). get_or ps k p) adds.parts ∙ get_or_append_left old.parts.items _ p k (omega (arith, lt, one_each)) in
      let still = still_part (get_or queries k None) (get_or old.parts.items k p) old.targets.items old.numbers.items adds.copies (ends_in h adds.copies) (are k lt p) in
      let at_targets = subst (λ (ts : List ℕ). IsPartFor n h ts (old.numbers.items ++ ends_in h adds.copies) (get_or queries k None) (get_or old.parts.items k p)) (sym adds.targets) still in
      let at_numbers = subst (λ (ns : List ℕ). IsPartFor n h new.targets.items ns (get_or queries k None) (get_or old.parts.items k p)) (sym adds.numbers) at_targets in
      subst (λ (part : Part). IsPartFor n h new.targets.items new.numbers.items (get_or queries k None) part) (sym same) at_numbers)
      (λ p.
      let part : Part = record { first = length old.numbers.items; end = length new.numbers.items } in
      let last : get_or new.parts.items count p ≡ part =
      ap (λ (ps : List Part). get_or ps count p) adds.parts ∙ (ap (λ k. get_or (old.parts.items ++ part ∷ []) k p) (sym one_each) ∙ get_or-append_seam old.parts.items part [] p) in
      subst (λ (x : Part). IsPartFor n h new.targets.items new.numbers.items (get_or queries count None) x) (sym last) (part_added (get_or queries count None) old new adds))

-- a part lies within all
pub part_fits : (n : NetworkLists) (h : Option HierarchyLists) (targets numbers : List ℕ) (q : Option Query) (part : Part) → IsPartFor n h targets numbers q part
    → (part.first ≤ part.end) × (part.end ≤ length numbers)
part_fits n h targets numbers q part is =
    let first = is.first in
    let end = is.end in
    let whole = ap length is.numbers_are ∙ (length-append is.before (ends_in h is.copies ++ is.after)) in
    let behind = length-append (ends_in h is.copies) is.after in
    (omega arith, omega arith)

-- the numbers of targets and of more are those of both
pub ends_more : (h : Option HierarchyLists) (targets more : List ℕ) → ends_in h (targets ++ more) ≡ ends_in h targets ++ ends_in h more
ends_more None targets more = refl
ends_more (Some h) targets more = flat_map-append (target_numbers h) targets more

-- ---- the numbers of one node

-- a number of a target is one of its node
own_number : (h : HierarchyLists) (targets : List ℕ) (p : ℕ) → Contains (ends_in (Some h) targets) p → Contains (target_numbers h (node_of p)) p
own_number h [] p (k, lt, is) = absurd (omega (arith, lt))
own_number h (x ∷ targets) p there = ⊎_elim here (own_number h targets p) (Contains-append_cases (target_numbers h x) (ends_in (Some h) targets) p there)
  where
    here : Contains (target_numbers h x) p → Contains (target_numbers h (node_of p)) p
    here own =
        let under = ends_under (Some h) (x ∷ []) p (Contains-append_left (target_numbers h x) [] p own) in
        subst (λ v. Contains (target_numbers h v) p) (⊎_elim (λ none. absurd (let lt = none.1 in omega arith)) (λ same. same) (Contains-push_cases [] x (node_of p) under)) own

-- and each number of a target's node is one of the target
numbers_alike : (h : HierarchyLists) (targets : List ℕ) (v p : ℕ) → Contains targets v → Contains (target_numbers h v) p → Contains (ends_in (Some h) targets) p
numbers_alike h (x ∷ targets) v p (zero, lt, is) own = Contains-append_left (target_numbers h x) (ends_in (Some h) targets) p (subst (λ y. Contains (target_numbers h y) p) (sym is) own)
numbers_alike h (x ∷ targets) v p (suc k, lt, is) own = Contains-append_right (target_numbers h x) (ends_in (Some h) targets) p (numbers_alike h targets v p (k, omega (arith, lt), is) own)
numbers_alike h [] v p (k, lt, is) own = absurd (omega (arith, lt))

-- ---- the earliest of some times

-- it is no later than any of them
no_later : (first : Option ℕ) (times : List (Option ℕ)) (t : ℕ) → ((s : ℕ) × (first ≡ Some s) × (s ≤ t)) ⊎ Contains times (Some t) → (m : ℕ) × (fold earlier first times ≡ Some m) × (m ≤ t)
no_later first [] t (inl is) = is
no_later first [] t (inr (k, lt, is)) = absurd (omega (arith, lt))
no_later None (x ∷ times) t (inl (s, is, le)) = absurd (cc)
no_later (Some a) (None ∷ times) t (inl it) = no_later (Some a) times t (inl it)
no_later (Some a) (Some b ∷ times) t (inl (s, is, le)) = no_later (Some (min a b)) times t (inl (min a b, refl, let same : a ≡ s = cc in omega arith))
no_later None (x ∷ times) t (inr (zero, lt, is)) = no_later x times t (inl (t, is, omega arith))
no_later (Some a) (None ∷ times) t (inr (zero, lt, is)) = absurd (cc)
no_later (Some a) (Some b ∷ times) t (inr (zero, lt, is)) = no_later (Some (min a b)) times t (inl (min a b, refl, let same : b ≡ t = cc in omega arith))
no_later first (x ∷ times) t (inr (suc k, lt, is)) = no_later (earlier first x) times t (inr (k, omega (arith, lt), is))

-- and it is one of them
is_one : (first : Option ℕ) (times : List (Option ℕ)) (m : ℕ) → fold earlier first times ≡ Some m → (first ≡ Some m) ⊎ Contains times (Some m)
is_one first [] m is = inl is
is_one first (x ∷ times) m is = ⊎_elim (at first x) (λ later. inr (Contains-append_right (x ∷ []) times (Some m) later)) (is_one (earlier first x) times m is)
  where
    at : (a b : Option ℕ) → earlier a b ≡ Some m → (a ≡ Some m) ⊎ Contains (b ∷ times) (Some m)
    at None b is = inr (0, omega arith, is)
    at (Some a) None is = inl is
    at (Some a) (Some b) is = ⊎_elim (λ lt. inl (let same : min a b ≡ a = omega arith in cc)) (λ le. inr (0, omega arith, (let same : min a b ≡ b = omega arith in cc))) (cases_lt a b)

-- ---- arrivals

-- the least arrival at a number alone
pub by_search : (h : Option HierarchyLists) (g : GraphMeaning) (l : LabelsMeaning) (starts numbers : List ℕ) (dep : ℕ) (times : List (Option ℕ))
    → AreArrivals g l starts numbers dep times → AreArrivalsAround h g l starts numbers dep times
by_search h g l starts numbers dep times are = record {
  one_each = are.one_each;
  are = λ k lt. (
      let p = get_or numbers k 0 in
      record {
        ends = p ∷ [];
        there = (0, omega arith, refl);
        alike = λ targets inside v here. subst (Contains (ends_in h targets)) (⊎_elim (λ none. absurd (let below = none.1 in omega arith)) (λ same. same) (Contains-push_cases [] p v here)) inside;
        is = (are.are k lt).0;
      }
      );
}

-- and those at all numbers of its node, where that is one of the targets of descents
module _ (d : Destinations) (ready : AreDestinations d) (made : Descents) (is : d.descents ≡ Some made) where
  to : DescendTo d.network.now (hierarchy_searched d) ready.targets made
  to = subst (λ o. IfSome o (DescendTo d.network.now (hierarchy_searched d) ready.targets)) is ready.descents

  of_target : (k e : ℕ) → k < length d.table.nodes.items → Contains (ends_in (Some made.hierarchy.now) ready.targets) (get_or d.table.nodes.items k e)
  of_target k e lt =
      let p = get_or d.table.nodes.items k e in
      subst (λ (ps : List ℕ). Contains ps p) (ready.numbers_are ∙ ap (λ (h : Option HierarchyLists). ends_in h ready.targets) to.hierarchy) (Contains-get_or d.table.nodes.items k e lt)

  pub served : All (λ p. IsServed made (node_of p)) d.table.nodes.items
  served k e lt =
      let p = get_or d.table.nodes.items k e in
      All-contains (IsServed made) ready.targets (node_of p) to.served (ends_under (Some made.hierarchy.now) ready.targets p (of_target k e lt))

  pub by_descents : (l : LabelsMeaning) (origins : List ℕ) (dep : ℕ) (times : List (Option ℕ))
      → AreNodeArrivals made.network.now made.hierarchy.now l (starts_in (hierarchy_searched d) origins) dep d.table.nodes.items times → AreNumberArrivals d l origins dep times
  by_descents l origins dep times are =
      let h = made.hierarchy.now in
      let g = meaning_in_use d.graph in
      let starts = starts_in (hierarchy_searched d) origins in
      let in_use = subst₂ (λ (n : NetworkLists) (o : Option HierarchyLists). IsInUse n o ready.targets g) (sym to.network) to.hierarchy ready.in_use in
      subst (λ (o : Option HierarchyLists). AreArrivalsAround o g l starts d.table.nodes.items dep times) (sym to.hierarchy) (record {
        one_each = are.one_each;
        are = λ k lt. (
            let p = get_or d.table.nodes.items k 0 in
            record {
              ends = target_numbers h (node_of p);
              there = own_number h ready.targets p (of_target k 0 lt);
              alike = λ some here v own. numbers_alike h some (node_of p) v (ends_under (Some h) some p here) own;
              is = are.are k lt ready.targets g in_use (ends_under (Some h) ready.targets p (of_target k 0 lt));
            }
            );
      })

module _ (h : Option HierarchyLists) (g : GraphMeaning) (l : LabelsMeaning) (starts : List ℕ) (dep : ℕ) where
  -- a walk to one of some ends is one to one of others among which it is
  to_others : (ends others : List ℕ) (t : ℕ) (a : ArrivesAt g l starts ends dep t) → Contains others a.end → ArrivesAt g l starts others dep t
  to_others ends others t a there = record { start = a.start; end = a.end; steps = a.steps; starts_there = a.starts_there; ends_there = there; walk = a.walk; word = a.word }

  -- the earliest of those around each number of some targets is the least arrival at these
  at_all : (targets : List ℕ) (times : List (Option ℕ)) → AreArrivalsAround h g l starts (ends_in h targets) dep times → IsArrival g l starts (ends_in h targets) dep None (earliest times)
  at_all targets times are = by_earliest (earliest times) refl
    where
      ends : List ℕ
      ends = ends_in h targets

      early : (t : ℕ) → ArrivesAt g l starts ends dep t → (m : ℕ) × (earliest times ≡ Some m) × (m ≤ t)
      early t a =
          let (k, lt, is) = a.ends_there in
          let around = are.are k lt in
          let there = subst (Contains around.ends) (get_or_default ends k 0 a.end lt ∙ is) around.there in
          by_time k lt (get_or times k None) refl around.ends around.is (to_others ends around.ends t a there)
        where
          by_time : (k : ℕ) → k < length ends → (arrival : Option ℕ) → get_or times k None ≡ arrival → (others : List ℕ) → IsArrival g l starts others dep None arrival → ArrivesAt g l starts others dep t
              → (m : ℕ) × (earliest times ≡ Some m) × (m ≤ t)
          by_time k lt None at others none there = absurd (none t tt there)
          by_time k lt (Some s) at others (least, within) there =
              let inside : k < length times = omega (arith, are.one_each) in
              let (m, is, le) = no_later None times s (inr (k, inside, get_or_default times k (Some s) None inside ∙ at)) in
              let before = least.least t there in
              (m, is, omega arith)

      reached : (m : ℕ) → Contains times (Some m) → ArrivesAt g l starts ends dep m
      reached m (k, lt, is) =
          let inside : k < length ends = omega (arith, are.one_each) in
          let around = are.are k inside in
          let least = subst (IsArrival g l starts around.ends dep None) (get_or_default times k None (Some m) lt ∙ is) around.is in
          let there = least.0.reached in
          to_others around.ends ends m there (around.alike targets (Contains-get_or ends k 0 inside) there.end there.ends_there)

      by_earliest : (first : Option ℕ) → earliest times ≡ first → IsArrival g l starts ends dep None first
      by_earliest None none = λ t within a. (let e = early t a in let is = e.1 in absurd (cc))
      by_earliest (Some m) is = (
        record {
          reached = ⊎_elim (λ none. absurd (cc)) (reached m) (is_one None times m is);
          least = λ t a. (let (s, found, le) = early t a in let same : m ≡ s = cc in omega arith);
        },
        tt,
      )

  -- those around the numbers of a part
  part_of : (before ends after : List ℕ) (times : List (Option ℕ)) → AreArrivalsAround h g l starts (before ++ (ends ++ after)) dep times
      → AreArrivalsAround h g l starts ends dep (slice_range times (length before) (length before + length ends))
  part_of before ends after times are = record {
    one_each = rw (width, length-take, length-drop) (omega (arith, are.one_each, length-append before (ends ++ after), length-append ends after));
    are = λ k lt. (
        let here = are.are (length before + k) (omega (arith, lt, length-append before (ends ++ after), length-append ends after)) in
        let node : get_or (before ++ (ends ++ after)) (length before + k) 0 ≡ get_or ends k 0 = get_or-append-add before (ends ++ after) k 0 ∙ get_or_append_left ends after 0 k lt in
        let time : get_or times (length before + k) None ≡ get_or (slice_range times (length before) (length before + length ends)) k None = sym (rw (width, get_or-take, get_or-drop) refl) in
        subst (IsArrivalAround h g l starts dep (get_or ends k 0)) time (subst (λ v. IsArrivalAround h g l starts dep v (get_or times (length before + k) None)) node here)
        );
  } where
    width : length before + length ends - length before ≡ length ends
    width = omega arith

  pub earliest_arrival : (n : NetworkLists) (targets numbers : List ℕ) (q : Option Query) (part : Part) (is : IsPartFor n h targets numbers q part) (times : List (Option ℕ))
      → AreArrivalsAround h g l starts numbers dep times → IsArrival g l starts (ends_in h is.copies) dep None (earliest_in times part)
  earliest_arrival n targets numbers q part is times are =
      let of_part = part_of is.before (ends_in h is.copies) is.after times (subst (λ (ps : List ℕ). AreArrivalsAround h g l starts ps dep times) is.numbers_are are) in
      subst₂ (λ from to. IsArrival g l starts (ends_in h is.copies) dep None (earliest (slice_range times from to))) (sym is.first) (sym is.end) (at_all is.copies _ of_part)

-- the earliest of each part of the times are the arrivals at the destinations
pub arrivals_to : (n : NetworkLists) (q : Query) (queries : List (Option Query)) (parts : List Part) (times : List (Option ℕ)) → length parts ≡ length queries
    → ((k : ℕ) → k < length queries → (p : Part) → IsArrivalTo n q (get_or queries k None) (earliest_in times (get_or parts k p))) → AreArrivalsTo n q queries (map (earliest_in times) parts)
arrivals_to n q queries parts times one_each are = record {
  one_each = length-map parts (earliest_in times) ∙ one_each;
  are = λ k lt. (
      let p : Part = record { first = 0; end = 0 } in
      let same = get_or_default (map (earliest_in times) parts) k None (earliest_in times p) (omega (arith, lt, one_each, length-map parts (earliest_in times))) ∙ get_or-map (earliest_in times) parts k p in
      subst (IsArrivalTo n q (get_or queries k None)) (sym same) (are k lt p)
      );
}

-- ---- all destinations

module _ (d : Destinations) (ready : AreDestinations d) (times : List (Option ℕ)) where
  -- each part lies within the times
  pub parts_fit : length times ≡ length d.table.nodes.items → All (λ (part : Part). (part.first ≤ part.end) × (part.end ≤ length times)) d.parts.items
  parts_fit one_each k part lt =
      let fits = part_fits d.network.now (hierarchy_searched d) ready.targets d.table.nodes.items (get_or d.queries.now k None) (get_or d.parts.items k part)
      (ready.are k (omega (arith, lt, ready.one_each)) part) in
      (fits.0, omega (arith, fits.1, one_each))

  -- the earliest of each part is the arrival at its destination
  pub all_arrivals : IsNetwork d.network.now → (q : Query) (l : LabelsMeaning) → AreDenoted (form_of q.expr) l → (origins : List ℕ) → AreTheCopies d.network.now q.from origins
      → AreNumberArrivals d l origins q.depart times
      → AreArrivalsTo d.network.now q d.queries.now (map (earliest_in times) d.parts.items)
  all_arrivals network q l denotes origins from are = arrivals_to d.network.now q d.queries.now d.parts.items times ready.one_each (λ k lt p. at (get_or d.queries.now k None) (get_or d.parts.items k p) (ready.are k lt p))
    where
      nowhere : (copies : List ℕ) → copies ≡ [] → (arrival : Option ℕ) → IsArrival (meaning_in_use d.graph) l (starts_in (hierarchy_searched d) origins) (ends_in (hierarchy_searched d) copies) q.depart None arrival → arrival ≡ None
      nowhere copies none None is = refl
      nowhere copies none (Some t) (least, _) =
          absurd (let there = subst (λ (vs : List ℕ). Contains vs (node_under (hierarchy_searched d) least.reached.end)) none (ends_under (hierarchy_searched d) copies least.reached.end least.reached.ends_there) in let lt = there.1 in omega arith)

      at : (o : Option Query) (part : Part) → IsPartFor d.network.now (hierarchy_searched d) ready.targets d.table.nodes.items o part → IsArrivalTo d.network.now q o (earliest_in times part)
      at None part is =
          nowhere is.copies is.are (earliest_in times part) (earliest_arrival (hierarchy_searched d) (meaning_in_use d.graph) l (starts_in (hierarchy_searched d) origins) q.depart d.network.now ready.targets d.table.nodes.items None part is times are)
      at (Some other) part is =
          best_arrival d.network.now network (hierarchy_searched d) ready.sound ready.targets (meaning_in_use d.graph) ready.in_use (asked_to q other) l denotes origins is.copies from is.are is.inside (earliest_in times part)
          (earliest_arrival (hierarchy_searched d) (meaning_in_use d.graph) l (starts_in (hierarchy_searched d) origins) q.depart d.network.now ready.targets d.table.nodes.items (Some other) part is times are)
