-- A word as a rider tells it: what is done by one road mode without a break is one letter.
use Rattle.std.specs.Prelude.{ℕ, List, [], ◌∷◌, ◌&&◌, ◌==◌, nat_lt, if◌then◌else◌}

-- the word in which adjacent equal road letters, which are 0, 1 and 2, are made one
abbrev pub collapse : List ℕ → List ℕ
collapse [] = []
collapse (c ∷ []) = c ∷ []
collapse (c ∷ d ∷ word) = if (c == d) && nat_lt c 3 then collapse (d ∷ word) else (c ∷ collapse (d ∷ word))
