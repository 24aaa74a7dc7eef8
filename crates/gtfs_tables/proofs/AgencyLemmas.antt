-- Time zones of earlier rows.
use Rattle.plan_base.proofs.Common.{◌≡◌, ℕ, List, [], ◌∷◌, ◌++◌, filter_map, refl, false, Some, unwrap_or, list_any}
use Rattle.gtfs_tables.specs.{agencies, first_zone, is_first, has_first_zone}

-- no row has the key of an earlier one, and none gives a record
pub without_key : (zones : List (List ℕ)) (zone : List ℕ) → list_any (agencies.has_key_of zone) zones ≡ false
without_key [] zone = refl
without_key (first ∷ zones) zone = without_key zones zone

pub without_record : (zones : List (List ℕ)) → filter_map agencies.gives zones ≡ []
without_record [] = refl
without_record (first ∷ zones) = without_record zones

-- the first time zone
pub same_zone : (zones : List (List ℕ)) (zone : List ℕ) → has_first_zone agencies zones zone ≡ is_first (first_zone zones) zone
same_zone [] zone = refl
same_zone (first ∷ zones) zone = refl

pub first_stays : (zones : List (List ℕ)) (zone : List ℕ) → Some (unwrap_or (first_zone zones) zone) ≡ first_zone (zones ++ zone ∷ [])
first_stays [] zone = refl
first_stays (first ∷ zones) zone = refl
