-- frequencies.txt has no key.
use Rattle.plan_base.proofs.Common.{◌≡◌, List, [], ◌∷◌, refl, false, list_any}
use Rattle.gtfs_tables.specs.{Frequency}

pub without_key : (earlier : List Frequency) → list_any (λ _. false) earlier ≡ false
without_key [] = refl
without_key (first ∷ earlier) = without_key earlier
