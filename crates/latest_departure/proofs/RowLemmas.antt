-- The arcs of a row, entry by entry.
use Rattle.plan_base.proofs.Common.{◌≡◌, ℕ, suc, ◌+◌, ◌^◌, ◌<◌, List, [], ◌∷◌, ◌++◌, length, map, take, drop, get_or, refl, sym, ap, ◌∙◌, subst, arith, length-append, slice_index_or, sum_by, flat_map, drop-cons, add-one, flat_map-append, get_or_append_left, get_or-append-add, get_or-map, length-map, map-append, take-append-drop, sum_by-cons, length-map-range_with_len, get_or-map-range_with_len}
use Rattle.timetable_arcs.specs.{TableLists, IsTable}
use Rattle.timetable_arcs.proofs.TableLemmas.{pattern_short}
use Rattle.mode_network.specs.{NetworkLists.NetworkLists, nodes_of}
use Rattle.plain_graph.specs.{PlainArc, Road, Link, Stand, Ride, IsKnownRide}
use Rattle.latest_departure.specs.{Source, Entry, plain_arcs_of, count_of, plain_arc_of, arc_into, LeadsInto, AreSources, row_entries, sources_at, source_of, entry_count, RidesAreKnown}
use Rattle.latest_departure.specs.declared.source.Source.TheVariants as source
use Rattle.latest_departure.proofs.ArcLemmas.{IsInto, all_into}

-- ---- one source
counts : (s : Source) → length (plain_arcs_of s) ≡ count_of s
counts (source.Road arc) = refl
counts (source.Link link) = refl
counts source.Stand = refl
counts (source.Alight pattern call) = length-map-range_with_len (λ board. Ride (record { pattern = pattern; board = board; alight = call })) 0 call

abbrev at_of : Source → ℕ → PlainArc
at_of s i = slice_index_or (plain_arcs_of s) i Stand

is_at : (s : Source) (i : ℕ) → i < count_of s → at_of s i ≡ plain_arc_of s i
is_at (source.Road arc) i lt = let none : i ≡ 0 = omega arith in ap (at_of (source.Road arc)) none
is_at (source.Link link) i lt = let none : i ≡ 0 = omega arith in ap (at_of (source.Link link)) none
is_at source.Stand i lt = let none : i ≡ 0 = omega arith in ap (at_of source.Stand) none
is_at (source.Alight pattern call) i lt = get_or-map-range_with_len (λ board. Ride (record { pattern = pattern; board = board; alight = call })) 0 call i i Stand lt (omega arith)

-- ---- a row
abbrev pub arcs_along : List Entry → List PlainArc
arcs_along row = flat_map plain_arcs_of (map source_of row)

pub total : (row : List Entry) → length (arcs_along row) ≡ sum_by entry_count row
total [] = refl
total (entry ∷ row) =
    let rest = total row in
    let both = length-append (plain_arcs_of entry.source) (arcs_along row) in
    let own = counts entry.source in
    let sum = sum_by-cons entry_count entry row in
    omega arith

split_at : (row : List Entry) (k : ℕ) (entry : Entry) → k < length row → entry ≡ get_or row k entry → drop k row ≡ entry ∷ drop (k + 1) row
split_at row k entry within is = rw (add-one, drop-cons row k entry) (ap (λ (e : Entry). e ∷ drop (suc k) row) (sym is))

pub along_append : (xs ys : List Entry) → arcs_along (xs ++ ys) ≡ arcs_along xs ++ arcs_along ys
along_append xs ys = ap (flat_map plain_arcs_of) (map-append source_of xs ys) ∙ flat_map-append plain_arcs_of (map source_of xs) (map source_of ys)

-- the arcs of the entries from the k-th on stand behind as many as the entries before it stand for
pub dropped : (row : List Entry) (k i : ℕ) → slice_index_or (arcs_along row) (sum_by entry_count (take k row) + i) Stand ≡ slice_index_or (arcs_along (drop k row)) i Stand
dropped row k i =
    ap (λ (xs : List Entry). slice_index_or (arcs_along xs) (sum_by entry_count (take k row) + i) Stand) (sym (take-append-drop k row))
    ∙ ap (λ (xs : List PlainArc). slice_index_or xs (sum_by entry_count (take k row) + i) Stand) (along_append (take k row) (drop k row))
    ∙ ap (λ j. slice_index_or (arcs_along (take k row) ++ arcs_along (drop k row)) (j + i) Stand) (sym (total (take k row)))
    ∙ get_or-append-add (arcs_along (take k row)) (arcs_along (drop k row)) i Stand

-- what an entry stands for are the arcs from there on
pub source_at : (row : List Entry) (k : ℕ) (entry : Entry) → k < length row → entry ≡ get_or row k entry → (i : ℕ) → i < count_of entry.source
    → slice_index_or (arcs_along row) (sum_by entry_count (take k row) + i) Stand ≡ plain_arc_of entry.source i
source_at row k entry within is i lt =
    let split : drop k row ≡ entry ∷ drop (k + 1) row = split_at row k entry within is in
    dropped row k i ∙ ap (λ (xs : List Entry). slice_index_or (arcs_along xs) i Stand) split
    ∙ get_or_append_left (plain_arcs_of entry.source) (arcs_along (drop (k + 1) row)) Stand i (let own = counts entry.source in omega arith) ∙ is_at entry.source i lt

-- ---- what is known of an arc into a node
module _ (n : NetworkLists) (t : TableLists) (rows : ℕ → List Source) (sources : AreSources n t rows) where
  ride_known : (v : ℕ) (a : PlainArc) → IsInto n t v a → IsKnownRide t a
  ride_known v (Road arc) into = tt
  ride_known v (Link link) into = tt
  ride_known v Stand into = tt
  ride_known v (Ride ride) into = record { pattern = into.alights.is_pattern; later = into.later; within = into.alights.within }

  pub arc_known : RidesAreKnown t rows (length (nodes_of n))
  arc_known v i node within = ride_known v (arc_into rows v i) (all_into n t rows sources v node i Stand within)

-- the rides to a call are few
pub few_rides : (t : TableLists) → IsTable t → (s : Source) (k : ℕ) → k < count_of s → IsKnownRide t (plain_arc_of s k) → k < 2 ^ 32
few_rides t table (source.Road arc) k lt known = omega arith
few_rides t table (source.Link link) k lt known = omega arith
few_rides t table source.Stand k lt known = omega arith
few_rides t table (source.Alight pattern call) k lt known = let short = pattern_short t table pattern in let within = known.within in omega arith

-- what stands in the row of a node leads to it
module _ (n : NetworkLists) (t : TableLists) (entries : List Entry) (places : List ℕ) (sources : AreSources n t (sources_at entries places)) where
  pub entry_leads : (v : ℕ) → v < length (nodes_of n) → (k : ℕ) (d : Entry) → k < length (row_entries entries places v) → LeadsInto n t v (source_of (get_or (row_entries entries places v) k d))
  entry_leads v node k d within =
      let row = row_entries entries places v in
      let fits = sources.fit v node k (source_of d) (subst (λ j. k < j) (sym (length-map row source_of)) within) in
      subst (LeadsInto n t v) (get_or-map source_of row k d (source_of d) within) fits
