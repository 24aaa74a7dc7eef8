use Rattle.plan_base.proofs.Common.{◌≡◌, ℕ, List, [], ◌∷◌, length, map, refl, sym, ◌<◌, arith, Bor, None}
use Rattle.region_file.specs.{days_of_words}
use Rattle.region_file.proofs.kinds.days_of.Goals as goal

too_few : (fields : List (Bor (List ℕ))) → length fields < 2 → days_of_words (map (λ w. w.now) fields) ≡ None
unfolding days_of_words
too_few [] h = refl
too_few (first ∷ []) h = refl
too_few (first ∷ count ∷ rule) h = absurd (omega (arith, h))

pub returns-in_default : goal.returns-in_default
returns-in_default c = sym (too_few c.args.fields.now c.in_default.len_below)
