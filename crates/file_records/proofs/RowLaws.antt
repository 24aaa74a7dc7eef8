-- Records that are read one after the other.
use Rattle.std.proofs.Common.{◌≡◌, ℕ, List, [], ◌∷◌, ◌++◌, Result, Ok, Err, refl, sym, ap, append_assoc}
use Rattle.file_records.specs.{with_first}
use Rattle.file_records.proofs.Steps.{ok_is}

-- what was read before, and what is still read
abbrev pub with_front : {X : Type 0} → List X → Result (List X × List ℕ) ℕ → Result (List X × List ℕ) ℕ
with_front front (Ok x) = Ok (front ++ x.0, x.1)
with_front front (Err left) = Err left

pub regroup : {X : Type 0} (front : List X) (x : X) (others : Result (List X × List ℕ) ℕ) → with_front front (with_first x others) ≡ with_front (front ++ x ∷ []) others
regroup front x (Ok others) = ap (λ xs. Ok (xs, others.1)) (sym (append_assoc front (x ∷ []) others.0))
regroup front x (Err left) = refl

-- a record and those behind it, where they were read
pub first_ok : {X : Type 0} (x : X) (r : Result (List X × List ℕ) ℕ) (y : List X × List ℕ) → with_first x r ≡ Ok y → (z : List X × List ℕ) × (r ≡ Ok z) × ((x ∷ z.0, z.1) ≡ y)
first_ok x (Ok z) y e = (z, refl, ok_is (x ∷ z.0, z.1) y e)
first_ok x (Err left) y e = absurd cc

pub first_err : {X : Type 0} (x : X) (r : Result (List X × List ℕ) ℕ) (left : ℕ) → with_first x r ≡ Err left → r ≡ Err left
first_err x (Ok z) left e = absurd cc
first_err x (Err l) left e = e
