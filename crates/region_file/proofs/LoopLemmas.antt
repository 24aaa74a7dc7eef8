-- Reading records one after the other, as a loop does.
use Rattle.plan_base.proofs.Common.{◌≡◌, ℕ, suc, ◌-◌, ◌+◌, ◌≤◌, ◌<◌, List, [], ◌∷◌, ◌++◌, length, map, Some, None, Result, Ok, Err, refl, sym, ap, ap₂, ◌∙◌, append_assoc, append-nil, arith, Option}
use Rattle.plan_base.specs.{Place}
use Rattle.mode_network.specs.{Node, Stop}
use Rattle.region_file.specs.{stop_front, many, stop_nodes, stops_read}
use Rattle.file_records.specs.{Halt, Memory, Left, ◌>>=◌, HaltsAs, one, or_left, with_first}
use Rattle.file_records.proofs.RowLaws.{regroup, with_front}

-- one record that is read, or is not
pub one_is : {X : Type 0} (front : List ℕ → Option (X × List ℕ)) (bytes : List ℕ) (x : X × List ℕ) → front bytes ≡ Some x → one front bytes ≡ Ok x
one_is front bytes x e = ap (or_left (length bytes)) e

pub none_is : {X : Type 0} (front : List ℕ → Option (X × List ℕ)) (bytes : List ℕ) → front bytes ≡ None → one front bytes ≡ Err (length bytes)
none_is front bytes e = ap (or_left (length bytes)) e

-- one step of many
pub many_ok : {X : Type 0} (read : List ℕ → Result (X × List ℕ) ℕ) (n : ℕ) (bytes : List ℕ) (x : X × List ℕ) → read bytes ≡ Ok x → many read (suc n) bytes ≡ with_first x.0 (many read n x.1)
unfolding many
many_ok read n bytes x e = ap (λ r. r >>= (λ y. with_first y.0 (many read n y.1))) e

pub many_err : {X : Type 0} (read : List ℕ → Result (X × List ℕ) ℕ) (n : ℕ) (bytes : List ℕ) (left : ℕ) → read bytes ≡ Err left → many read (suc n) bytes ≡ Err left
unfolding many
many_err read n bytes left e = ap (λ r. r >>= (λ y. with_first y.0 (many read n y.1))) e

module _ {X : Type 0} (read : List ℕ → Result (X × List ℕ) ℕ) where
  pub goes_on : (front : List X) (count i : ℕ) (bytes : List ℕ) (x : X) (after : List ℕ) (total : Result (List X × List ℕ) ℕ) → i < count → read bytes ≡ Ok (x, after)
      → with_front front (many read (count - i) bytes) ≡ total → with_front (front ++ x ∷ []) (many read (count - (i + 1)) after) ≡ total
  goes_on front count i bytes x after total lt h so_far =
      let k : count - i ≡ suc (count - (i + 1)) = omega arith in
      let one : with_front front (many read (count - i) bytes) ≡ with_front (front ++ x ∷ []) (many read (count - (i + 1)) after) =
      ap (λ n. with_front front (many read n bytes)) k ∙ ap (with_front front) (many_ok read (count - (i + 1)) bytes (x, after) h) ∙ regroup front x (many read (count - (i + 1)) after) in
      sym one ∙ so_far

  pub halts : (front : List X) (count i : ℕ) (bytes : List ℕ) (left : ℕ) (total : Result (List X × List ℕ) ℕ) → i < count → read bytes ≡ Err left
      → with_front front (many read (count - i) bytes) ≡ total → total ≡ Err left
  halts front count i bytes left total lt h so_far =
      let k : count - i ≡ suc (count - (i + 1)) = omega arith in
      sym so_far ∙ ap (λ n. with_front front (many read n bytes)) k ∙ ap (with_front front) (many_err read (count - (i + 1)) bytes left h)

  pub is_done : (front : List X) (count i : ℕ) (bytes : List ℕ) (total : Result (List X × List ℕ) ℕ) → count ≤ i
      → with_front front (many read (count - i) bytes) ≡ total → total ≡ Ok (front, bytes)
  unfolding many
  is_done front count i bytes total le so_far =
      let k : count - i ≡ 0 = omega arith in
      sym so_far ∙ ap (λ n. with_front front (many read n bytes)) k ∙ ap (λ xs. Ok (xs, bytes)) (append-nil front)

  -- where one record halts, all do
  pub passes_on : (front : List X) (count i : ℕ) (bytes : List ℕ) (total : Result (List X × List ℕ) ℕ) → i < count → with_front front (many read (count - i) bytes) ≡ total
      → (halt : Halt) → HaltsAs halt (read bytes) → HaltsAs halt total
  passes_on front count i bytes total lt so_far Memory given = tt
  passes_on front count i bytes total lt so_far (Left left) given = halts front count i bytes left total lt given so_far

-- ---- stops, which are read into names and nodes

abbrev pub with_stops : List (List ℕ) → List Node → ℕ → Result (List (List ℕ × Place) × List ℕ) ℕ → Result ((List (List ℕ) × List Node) × List ℕ) ℕ
with_stops names nodes number (Ok x) = Ok ((names ++ map (λ stop. stop.0) x.0, nodes ++ stop_nodes number x.0), x.1)
with_stops names nodes number (Err left) = Err left

stop_regroup : (names : List (List ℕ)) (nodes : List Node) (number : ℕ) (name : List ℕ) (place : Place) (others : Result (List (List ℕ × Place) × List ℕ) ℕ)
    → with_stops names nodes number (with_first (name, place) others) ≡ with_stops (names ++ name ∷ []) (nodes ++ record { key = Stop number; place = place } ∷ []) (number + 1) others
stop_regroup names nodes number name place (Ok others) =
    ap₂ (λ xs ys. Ok ((xs, ys), others.1)) (sym (append_assoc names (name ∷ []) (map (λ stop. stop.0) others.0))) (sym (append_assoc nodes (record { key = Stop number; place = place } ∷ []) (stop_nodes (number + 1) others.0)))
stop_regroup names nodes number name place (Err left) = refl

pub stops_begin : (count : ℕ) (bytes : List ℕ) → with_stops [] [] 0 (many (one stop_front) (count - 0) bytes) ≡ stops_read count bytes
unfolding stops_read
stops_begin count bytes = ap (λ n. with_stops [] [] 0 (many (one stop_front) n bytes)) (omega arith) ∙ same (many (one stop_front) count bytes)
  where
    same : (r : Result (List (List ℕ × Place) × List ℕ) ℕ) → with_stops [] [] 0 r ≡ (r >>= (λ (stops : List (List ℕ × Place) × List ℕ). Ok ((map (λ stop. stop.0) stops.0, stop_nodes 0 stops.0), stops.1)))
    same (Ok x) = refl
    same (Err left) = refl

module _ (names : List (List ℕ)) (nodes : List Node) (count i : ℕ) (bytes : List ℕ) (total : Result ((List (List ℕ) × List Node) × List ℕ) ℕ) (so_far : with_stops names nodes i (many (one stop_front) (count - i) bytes) ≡ total) where
  pub stops_go_on : (name : List ℕ) (place : Place) (after : List ℕ) → i < count → stop_front bytes ≡ Some ((name, place), after)
      → with_stops (names ++ name ∷ []) (nodes ++ record { key = Stop i; place = place } ∷ []) (i + 1) (many (one stop_front) (count - (i + 1)) after) ≡ total
  stops_go_on name place after lt h =
      let k : count - i ≡ suc (count - (i + 1)) = omega arith in
      let step : with_stops names nodes i (many (one stop_front) (count - i) bytes) ≡ with_stops (names ++ name ∷ []) (nodes ++ record { key = Stop i; place = place } ∷ []) (i + 1) (many (one stop_front) (count - (i + 1)) after) =
      ap (λ n. with_stops names nodes i (many (one stop_front) n bytes)) k
      ∙ ap (with_stops names nodes i) (many_ok (one stop_front) (count - (i + 1)) bytes ((name, place), after) (one_is stop_front bytes ((name, place), after) h))
      ∙ stop_regroup names nodes i name place (many (one stop_front) (count - (i + 1)) after) in
      sym step ∙ so_far

  pub stops_halt : i < count → stop_front bytes ≡ None → total ≡ Err (length bytes)
  stops_halt lt h =
      let k : count - i ≡ suc (count - (i + 1)) = omega arith in
      sym so_far ∙ ap (λ n. with_stops names nodes i (many (one stop_front) n bytes)) k ∙ ap (with_stops names nodes i) (many_err (one stop_front) (count - (i + 1)) bytes (length bytes) (none_is stop_front bytes h))

  pub stops_done : count ≤ i → total ≡ Ok ((names, nodes), bytes)
  unfolding many
  stops_done le =
      let k : count - i ≡ 0 = omega arith in
      sym so_far ∙ ap (λ n. with_stops names nodes i (many (one stop_front) n bytes)) k ∙ ap₂ (λ xs ys. Ok ((xs, ys), bytes)) (append-nil names) (append-nil nodes)
