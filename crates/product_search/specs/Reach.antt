-- Product states and the times at which walks reach them.
use Rattle.std.specs.Prelude.{ℕ, ◌<◌, ◌≤◌, Bool, true, nat_lt, List, Option, Some, None, Contains, IsTrue, IfSome}
use Rattle.search_laws.specs.{GraphMeaning, LabelsMeaning, Reads, WalkStep, IsWalk, word_from}

-- some walk from a start at dep is at v at t, and its word leads from a start state to q
pub record IsReachedAt (g : GraphMeaning) (l : LabelsMeaning) (starts : List ℕ) (dep v q t : ℕ) : Type 0 where
  pub start : ℕ
  pub first : ℕ
  pub steps : List WalkStep
  pub starts_there : Contains starts start
  pub is_state : first < l.states
  pub is_start : IsTrue (l.is_start first)
  pub walk : IsWalk g start dep steps v t
  pub reads : Reads l first (word_from g start steps) q

pub record IsLeastAt (g : GraphMeaning) (l : LabelsMeaning) (starts : List ℕ) (dep v q t : ℕ) : Type 0 where
  pub reached : IsReachedAt g l starts dep v q t
  pub least : (u : ℕ) → IsReachedAt g l starts dep v q u → t ≤ u

-- t is no later than the bound, if there is one
abbrev pub IsWithin : Option ℕ → ℕ → Type 0
IsWithin bound t = IfSome bound (λ b. t ≤ b)

-- t is before the arrival, if there is one
abbrev pub IsBefore : Option ℕ → ℕ → Type 0
IsBefore arrival t = IfSome arrival (λ a. t < a)

abbrev pub is_before : Option ℕ → ℕ → Bool
is_before None t = true
is_before (Some a) t = nat_lt t a

-- the times that an answer lists: those before the arrival, or where there is none, those within the bound
abbrev pub IsToList : Option ℕ → Option ℕ → ℕ → Type 0
IsToList bound None t = IsWithin bound t
IsToList bound (Some a) t = t < a
