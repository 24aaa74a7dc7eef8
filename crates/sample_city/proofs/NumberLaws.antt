-- Numbers that are noted one after the other.
use Rattle.plan_base.proofs.Common.{◌≡◌, ℕ, Option, None, Some, refl, sym, ◌∙◌, ◌<◌, List, [], ◌∷◌, length, arith, option_or}
use Rattle.mode_network.specs.{Node}
use Rattle.sample_city.specs.{RoadNodeKey, road_number_from}

nothing_noted : (old : Option ℕ) → option_or old None ≡ old
nothing_noted None = refl
nothing_noted (Some n) = refl

-- where no node is left, all are noted
pub all_noted : (old : Option ℕ) (k : ℕ) (rest : List Node) (end : RoadNodeKey) (all : Option ℕ) → length rest < 1 → option_or old (road_number_from k rest end) ≡ all → old ≡ all
all_noted old k [] end all none e = sym (nothing_noted old) ∙ e
all_noted old k (node ∷ rest) end all none e = absurd (omega arith)
