-- What sweeps make of times.
use Rattle.std.specs.Prelude.{◌≡◌, ℕ, ◌+◌, ◌<◌, ◌≤◌, List, length, slice_index_or}
use Rattle.hierarchy.specs.{Hop, AreHops, total}

abbrev pub time_at : List ℕ → ℕ → ℕ
time_at times i = slice_index_or times i 0

-- so long after t it is u at the latest, if that is below the limit
abbrev pub ArrivesBy : ℕ → ℕ → ℕ → ℕ → Type 0
ArrivesBy limit t w u = t + w < limit → u ≤ t + w

-- at place j it is as late as it is after a walk from some place
pub record IsWalked (Leads : ℕ → ℕ → ℕ → Type 0) (times : List ℕ) (j t : ℕ) : Type 0 where
  pub start : ℕ
  pub hops : List Hop
  pub walk : AreHops Leads start hops j
  pub at : time_at times start + total hops ≡ t

-- times that are no later than those before, and are those after walks
pub record AreWalked (Leads : ℕ → ℕ → ℕ → Type 0) (before after : List ℕ) : Type 0 where
  pub as_many : length after ≡ length before
  pub no_later : (j : ℕ) → time_at after j ≤ time_at before j
  pub walked : (j : ℕ) → IsWalked Leads before j (time_at after j)

-- where a leg leads it is no later than at its start and so long after, as far as that is below the limit
abbrev pub AreClosed : (ℕ → ℕ → ℕ → Type 0) → ℕ → List ℕ → Type 0
AreClosed Leads limit times = (i j w : ℕ) → Leads i j w → ArrivesBy limit (time_at times i) w (time_at times j)
