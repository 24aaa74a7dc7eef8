-- Numbers that are noted one after the other.
use Rattle.plan_base.proofs.Common.{◌≡◌, ℕ, Option, None, Some, refl, sym, ◌∙◌, ◌<◌, List, [], ◌∷◌, length, arith, option_or}
use Rattle.region_build.specs.{StopEntry, number_from}

nothing_noted : (old : Option ℕ) → option_or old None ≡ old
nothing_noted None = refl
nothing_noted (Some n) = refl

-- where no entry is left, all are noted
pub all_noted : (old : Option ℕ) (k : ℕ) (rest : List StopEntry) (stop : ℕ) (all : Option ℕ) → length rest < 1 → option_or old (number_from k rest stop) ≡ all → old ≡ all
all_noted old k [] stop all none e = sym (nothing_noted old) ∙ e
all_noted old k (entry ∷ rest) stop all none e = absurd (omega arith)
