use Rattle.std.specs.Prelude.{ℤ, pos, neg_ℤ, Bool, true, false, T, Option, None, Some, int_le, option_and_then, option_map}
pub use Rattle.plan_base.specs.declared.places.Place.{Place}

-- a test with what it shows
abbrev pub shown : (test : Bool) → Option (T test)
shown true = Some tt
shown false = None

-- the place of a latitude and a longitude, where they are in range
abbrev pub place_of : ℤ → ℤ → Option Place
place_of lat lon =
    option_and_then (λ south.
    option_and_then (λ north.
    option_and_then (λ west.
    option_map (λ east.
    record { lat = lat; lon = lon; in_range = record { south = record { le = south }; north = record { le = north }; west = record { le = west }; east = record { le = east } } })
    (shown (int_le lon (pos 1800000000))))
    (shown (int_le (neg_ℤ (pos 1800000000)) lon)))
    (shown (int_le lat (pos 900000000))))
    (shown (int_le (neg_ℤ (pos 900000000)) lat))
