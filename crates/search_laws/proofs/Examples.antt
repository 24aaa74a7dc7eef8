-- Words collapsed by hand.
use Rattle.plan_base.proofs.Common.{◌≡◌, [], ◌∷◌, refl}
use Rattle.search_laws.specs.{collapse}

one_road : collapse (0 ∷ 0 ∷ 0 ∷ []) ≡ 0 ∷ []
one_road = refl

roads_in_turn : collapse (0 ∷ 0 ∷ 2 ∷ 2 ∷ 0 ∷ []) ≡ 0 ∷ 2 ∷ 0 ∷ []
roads_in_turn = refl

rides_stay : collapse (1 ∷ 3 ∷ 3 ∷ 1 ∷ 1 ∷ 13 ∷ 13 ∷ []) ≡ 1 ∷ 3 ∷ 3 ∷ 1 ∷ 13 ∷ 13 ∷ []
rides_stay = refl
