-- The first place where something fails: a test that fails there, and that there is one such place.
use Rattle.plan_base.proofs.Common.{◌≡◌, ℕ, ◌<◌, Bool, false, inl, inr, sym, ◌∙◌, arith, IsTrue, ◌↔◌, false≢true, cases_lt}
use Rattle.search_laws.specs.{HoldsBelow, FailsFirstAt}

-- what a test decides fails where the test does
pub fails_here : (n : ℕ) (P : ℕ → Type 0) (k : ℕ) (b : Bool) → k < n → (IsTrue b ↔ P k) → b ≡ false → HoldsBelow k P → FailsFirstAt n P k
fails_here n P k b lt test failed before = record { place = lt; fails = λ holds. false≢true (sym failed ∙ test.1 holds); before = before }

-- what is the same below two bounds fails first at the same place
pub first_once : (n m : ℕ) (P Q : ℕ → Type 0) → ((k : ℕ) → k < n → P k → Q k) → ((k : ℕ) → k < m → Q k → P k) → (a b : ℕ) → FailsFirstAt n P a → FailsFirstAt m Q b → a ≡ b
first_once n m P Q to from a b one other = elim (cases_lt a b) [
  | inl lt ↦ absurd (one.fails (from a (let w = other.place in omega arith) (other.before a lt)))
  | inr ge ↦ elim (cases_lt b a) [
    | inl lt ↦ absurd (other.fails (to b (let w = one.place in omega arith) (one.before b lt)))
    | inr le ↦ omega arith
  ]
]
