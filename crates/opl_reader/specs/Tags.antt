-- Tags: a key and a value each.
use Rattle.std.specs.Prelude.{ℕ, List, [], ◌∷◌, ◌++◌, fold, Bool, not, ◌&&◌, is_some, bytes_eq, codes, Option, Some, None, option_map, if◌then◌else◌}
use Rattle.std.specs.List.{list_any}
use Rattle.opl_reader.specs.{Optional.each, Optional.◌>>=◌, Cuts.cut_of, Cuts.at_commas, Escapes.unescaped}
pub use Rattle.opl_reader.specs.{declared.objects.Element.Element, declared.objects.Element.TheVariants.Node, declared.objects.Element.TheVariants.Way, declared.objects.Amenity.Amenity, declared.objects.Amenity.TheVariants.Nothing, declared.objects.Amenity.TheVariants.Parking, declared.objects.Amenity.TheVariants.BicycleParking, declared.objects.Amenity.TheVariants.BicycleRental}

-- the keys of ways that a road profile reads
abbrev pub way_keys : List (List ℕ)
way_keys =
    codes "highway" ∷ codes "access" ∷ codes "foot" ∷ codes "bicycle" ∷ codes "motor_vehicle" ∷ codes "oneway"
    ∷ codes "oneway:bicycle" ∷ codes "junction" ∷ codes "area" ∷ []

abbrev pub is_way_key : List ℕ → Bool
is_way_key key = list_any (bytes_eq key) way_keys

-- the key of nodes that tells what they are
abbrev pub is_node_key : List ℕ → Bool
is_node_key key = bytes_eq key (codes "amenity")

-- the keys of use at an element
abbrev pub is_key : Element → List ℕ → Bool
is_key Node key = is_node_key key
is_key Way key = is_way_key key

-- the key and the value before and behind the first `=`, where no other `=` stands
abbrev pub tag_of : List ℕ × List ℕ → Option (List ℕ × List ℕ)
tag_of parts =
    if is_some (cut_of 61 parts.1) then None
    else do
      key ← unescaped parts.0
      value ← unescaped parts.1
      Some (key, value)

-- the tag that a text spells
unfoldable pub tag_at : List ℕ → Option (List ℕ × List ℕ)
tag_at text = do
  parts ← cut_of 61 text
  tag_of parts

-- one of the tags has the key
abbrev pub has_key : List (List ℕ × List ℕ) → List ℕ → Bool
has_key tags key = list_any (λ tag. bytes_eq tag.0 key) tags

-- A tag joins those before it where its key is of use and none of them has it.
abbrev pub with_tag : (List ℕ → Bool) → List (List ℕ × List ℕ) → List ℕ × List ℕ → List (List ℕ × List ℕ)
with_tag is_key tags tag = if is_key tag.0 && not (has_key tags tag.0) then tags ++ tag ∷ [] else tags

-- The first tag of each key of use. No bytes are no tags.
unfoldable pub tags_at : (List ℕ → Bool) → List ℕ → Option (List (List ℕ × List ℕ))
tags_at is_key [] = Some []
tags_at is_key (b ∷ bs) = option_map (fold (with_tag is_key) []) (each tag_at (at_commas (b ∷ bs)))

-- what a value of the key `amenity` says
abbrev pub amenity_at : List ℕ → Amenity
amenity_at value =
    if bytes_eq value (codes "parking") then Parking
    else (if bytes_eq value (codes "bicycle_parking") then BicycleParking
    else (if bytes_eq value (codes "bicycle_rental") then BicycleRental else Nothing))

-- what a node with these tags is, where no other key is of use
abbrev pub amenity_of : List (List ℕ × List ℕ) → Amenity
amenity_of [] = Nothing
amenity_of (tag ∷ tags) = amenity_at tag.1
