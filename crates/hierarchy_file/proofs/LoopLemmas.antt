-- Reading records one after the other, as a loop does.
use Rattle.plan_base.proofs.Common.{◌≡◌, ℕ, zero, suc, ◌-◌, ◌+◌, ◌≤◌, ◌<◌, List, [], ◌∷◌, ◌++◌, length, Some, None, Result, Ok, Err, refl, sym, ap, ◌∙◌, append-nil, arith, Option}
use Rattle.file_records.proofs.RowLaws.{regroup, with_front}
use Rattle.hierarchy_file.specs.{many_ascending, next_node}

module _ {X K : Type 0} (read : Option K → List ℕ → Option (X × List ℕ)) (key : X → K) where
  pub goes_on : (front : List X) (count i : ℕ) (before : Option K) (bytes : List ℕ) (x : X) (after : List ℕ) (total : Result (List X × List ℕ) ℕ) → i < count
      → read before bytes ≡ Some (x, after) → with_front front (many_ascending read key (count - i) before bytes) ≡ total
      → with_front (front ++ x ∷ []) (many_ascending read key (count - (i + 1)) (Some (key x)) after) ≡ total
  unfolding many_ascending
  goes_on front count i before bytes x after total lt h so_far =
      let k : count - i ≡ suc (count - (i + 1)) = omega arith in
      let one : with_front front (many_ascending read key (count - i) before bytes) ≡ with_front (front ++ x ∷ []) (many_ascending read key (count - (i + 1)) (Some (key x)) after) =
      rw (k, h) (regroup front x (many_ascending read key (count - (i + 1)) (Some (key x)) after)) in
      sym one ∙ so_far

  pub halts : (front : List X) (count i : ℕ) (before : Option K) (bytes : List ℕ) (total : Result (List X × List ℕ) ℕ) → i < count → read before bytes ≡ None
      → with_front front (many_ascending read key (count - i) before bytes) ≡ total → total ≡ Err (length bytes)
  unfolding many_ascending
  halts front count i before bytes total lt h so_far =
      let k : count - i ≡ suc (count - (i + 1)) = omega arith in
      let one : with_front front (many_ascending read key (count - i) before bytes) ≡ Err (length bytes) = rw (k, h) refl in
      sym so_far ∙ one

  pub is_done : (front : List X) (count i : ℕ) (before : Option K) (bytes : List ℕ) (total : Result (List X × List ℕ) ℕ) → count ≤ i
      → with_front front (many_ascending read key (count - i) before bytes) ≡ total → total ≡ Ok (front, bytes)
  unfolding many_ascending
  is_done front count i before bytes total le so_far =
      let k : count - i ≡ 0 = omega arith in
      let one : with_front front (many_ascending read key (count - i) before bytes) ≡ Ok (front, bytes) = rw k (ap (λ xs. Ok (xs, bytes)) (append-nil front)) in
      sym so_far ∙ one

-- the node before says nothing of the next one
pub any_before : (n : ℕ) (before : Option ℕ) (bytes : List ℕ) → many_ascending next_node (λ (v : ℕ). v) n before bytes ≡ many_ascending next_node (λ (v : ℕ). v) n None bytes
unfolding many_ascending
any_before zero before bytes = refl
any_before (suc n) before bytes = refl
