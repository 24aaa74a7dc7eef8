-- Coordinates, and references of ways to nodes.
use Rattle.std.specs.Prelude.{ℕ, List, [], ◌∷◌, ℤ, Bool, false, ◌&&◌, ◌==◌, is_some, Option, Some, None, option_map, if◌then◌else◌}
use Rattle.geo_length.specs.{degrees_of}
use Rattle.opl_reader.specs.{Optional.each, Cuts.cut_of, Cuts.at_commas, Ids.osm_id_at}

-- Degrees of at most this size, in units of 10^-7 degree; or nothing, which is no coordinate.
abbrev pub coordinate_at : ℕ → List ℕ → Option (Option ℤ)
coordinate_at most [] = Some None
coordinate_at most (b ∷ bs) = option_map Some (degrees_of most (b ∷ bs))

abbrev pub are_coordinates : Option (List ℕ × List ℕ) → Bool
are_coordinates None = false
are_coordinates (Some parts) = is_some (coordinate_at 180 parts.0) && is_some (coordinate_at 90 parts.1)

-- An id stands alone, or with an `x` and a `y`, whose values are coordinates.
abbrev pub placed_id : List ℕ → Option (List ℕ × List ℕ) → Option ℤ
placed_id text None = osm_id_at text
placed_id text (Some parts) = if are_coordinates (cut_of 121 parts.1) then osm_id_at parts.0 else None

-- the id of the node that a reference names: `n`, an id, and optionally coordinates, which are not used
unfoldable pub reference_at : List ℕ → Option ℤ
reference_at [] = None
reference_at (b ∷ bs) = if b == 110 then placed_id bs (cut_of 120 bs) else None

-- The ids that a way names. No bytes are no ids.
unfoldable pub references_at : List ℕ → Option (List ℤ)
references_at [] = Some []
references_at (b ∷ bs) = each reference_at (at_commas (b ∷ bs))
