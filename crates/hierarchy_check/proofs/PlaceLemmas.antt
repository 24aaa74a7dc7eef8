-- What holds at each place of a list, and where it fails first.
use Rattle.plan_base.proofs.Common.{◌≡◌, ℕ, ◌<◌, ◌≤◌, Bool, true, false, List, length, get_or, sym, ◌∙◌, subst, arith, All, IsTrue, ◌↔◌, HoldsAt, false≢true, get_or_default}
use Rattle.search_laws.specs.{HoldsBelow}
use Rattle.hierarchy.specs.{FailsFirst}

-- a test of the element at a place decides what holds there
pub holds_at : {X : Type 0} (P : X → Type 0) (xs : List X) (k : ℕ) (e : X) (b : Bool) → k < length xs → (IsTrue b ↔ P (get_or xs k e)) → b ≡ true → HoldsAt P xs k
holds_at P xs k e b lt test passed d = subst P (get_or_default xs k e d lt) (test.0 passed)

pub fails_at : {X : Type 0} (P : X → Type 0) (xs : List X) (k : ℕ) (e : X) (b : Bool) → (IsTrue b ↔ P (get_or xs k e)) → b ≡ false → HoldsAt P xs k → ⊥
fails_at P xs k e b test failed holds = false≢true (sym failed ∙ test.1 (holds e))

pub fails_first : {X : Type 0} (P : X → Type 0) (xs : List X) (k : ℕ) (e : X) (b : Bool) → k < length xs → (IsTrue b ↔ P (get_or xs k e)) → b ≡ false → HoldsBelow k (HoldsAt P xs) → FailsFirst P xs k
fails_first P xs k e b lt test failed before = record { place = lt; fails = fails_at P xs k e b test failed; before = before }

pub all_hold : {X : Type 0} (P : X → Type 0) (xs : List X) (k : ℕ) → length xs ≤ k → HoldsBelow k (HoldsAt P xs) → All P xs
all_hold P xs k le before j d lt = before j (omega arith) d
