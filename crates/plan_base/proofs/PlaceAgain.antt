use Rattle.plan_base.proofs.Common.{◌≡◌, refl, sym, ap₂, ◌∙◌, ℤ, pos, neg_ℤ, Bool, true, false, T, Some, int_le}
use Rattle.plan_base.specs.{Place, shown, place_of}

shown_is : (test : Bool) (holds : T test) → shown test ≡ Some holds
shown_is true holds = refl
shown_is false holds = absurd holds

-- a place is the one of its own latitude and longitude
pub place_again : (place : Place) → place_of place.lat place.lon ≡ Some place
place_again place =
    rw (
      shown_is (int_le (neg_ℤ (pos 900000000)) place.lat) place.in_range.south.le,
      shown_is (int_le place.lat (pos 900000000)) place.in_range.north.le,
      shown_is (int_le (neg_ℤ (pos 1800000000)) place.lon) place.in_range.west.le,
      shown_is (int_le place.lon (pos 1800000000)) place.in_range.east.le,
    ) refl

-- a place with this latitude and this longitude is the place of them
pub place_is : (place : Place) (lat lon : ℤ) → place.lat ≡ lat → place.lon ≡ lon → Some place ≡ place_of lat lon
place_is place lat lon p q = sym (place_again place) ∙ ap₂ place_of p q
