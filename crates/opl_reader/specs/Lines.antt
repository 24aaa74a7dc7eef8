-- What a line of a map's text says: `n` and `w` begin a node and a way, whose id and fields follow. The fields
-- `d`, `T`, `x` and `y` of a node and `d`, `T` and `N` of a way are read, others are passed over. (In numbers:
-- `d` is 100, `n` 110, `N` 78, `T` 84, `w` 119, `x` 120, `y` 121, `#` 35, `r` 114, `c` 99.)
use Rattle.std.specs.Prelude.{ℕ, List, [], ◌∷◌, ℤ, Bool, true, false, not, ◌&&◌, ◌||◌, ◌==◌, nat_le, bytes_eq, codes, Option, Some, None, option_map, unwrap_or, if◌then◌else◌, filter_map}
use Rattle.std.specs.List.{list_all}
use Rattle.plan_base.specs.{Place, place_of}
use Rattle.opl_reader.specs.{Cuts.at_blanks, Ids.osm_id_at, References.coordinate_at, References.references_at, Tags.tags_at, Tags.is_key, Tags.amenity_of, declared.objects.Element.Element, Optional.◌>>=◌, declared.lines.Line.TheVariants.Node, declared.lines.Line.TheVariants.Way}
use Rattle.opl_reader.specs.declared.objects.Element.TheVariants as element
pub use Rattle.opl_reader.specs.{declared.lines.Line.Line, declared.lines.Line.TheVariants.Passed, declared.lines.Line.TheVariants.Bad}

-- a letter of ASCII
abbrev pub is_letter : ℕ → Bool
is_letter b = (nat_le 65 b && nat_le b 90) || (nat_le 97 b && nat_le b 122)

-- A field begins with a letter. Between blanks side by side, and behind the last, stands nothing.
abbrev pub is_field : List ℕ → Bool
is_field [] = true
is_field (letter ∷ value) = is_letter letter

-- the value of a field with this letter
abbrev pub value_with : ℕ → List ℕ → Option (List ℕ)
value_with letter [] = None
value_with letter (b ∷ value) = if b == letter then Some value else None

-- the values of the fields with this letter
abbrev pub values_of : ℕ → List (List ℕ) → List (List ℕ)
values_of letter fields = filter_map (value_with letter) fields

-- one value or none
abbrev pub at_most_one : List (List ℕ) → Option (Option (List ℕ))
at_most_one [] = Some None
at_most_one (value ∷ []) = Some (Some value)
at_most_one (value ∷ other ∷ others) = None

-- the value of the field with this letter, which may stand once, or be absent
unfoldable pub field_of : ℕ → List (List ℕ) → Option (Option (List ℕ))
field_of letter fields = at_most_one (values_of letter fields)

-- the value of the field with this letter, which is empty where the field is absent
abbrev pub field_text : ℕ → List (List ℕ) → Option (List ℕ)
field_text letter fields = option_map (λ value. unwrap_or value []) (field_of letter fields)

-- V is visible and D is deleted; without the field the object is visible
abbrev pub visible_at : Option (List ℕ) → Option Bool
visible_at None = Some true
visible_at (Some value) =
    if bytes_eq value (codes "V") then Some true
    else (if bytes_eq value (codes "D") then Some false else None)

-- whether the object is visible
abbrev pub visible_of : List (List ℕ) → Option Bool
visible_of fields = do
  value ← field_of 100 fields
  visible_at value

-- a coordinate that is absent or empty is none
abbrev pub coordinate_of : ℕ → ℕ → List (List ℕ) → Option (Option ℤ)
coordinate_of letter most fields = do
  value ← field_text letter fields
  coordinate_at most value

-- the place of a latitude and a longitude, where both are there
abbrev pub place_if_both : Option ℤ → Option ℤ → Option Place
place_if_both lat lon = do
  lat ← lat
  lon ← lon
  place_of lat lon

-- the place that the fields say, if they say one
abbrev pub place_in : List (List ℕ) → Option (Option Place)
place_in fields = do
  lon ← coordinate_of 120 180 fields
  lat ← coordinate_of 121 90 fields
  Some (place_if_both lat lon)

-- the tags that are kept
abbrev pub tags_in : Element → List (List ℕ) → Option (List (List ℕ × List ℕ))
tags_in element fields = do
  value ← field_text 84 fields
  tags_at (is_key element) value

-- the ids of the nodes that a way names
abbrev pub references_in : List (List ℕ) → Option (List ℤ)
references_in fields = do
  value ← field_text 78 fields
  references_at value

-- a deleted object says nothing
abbrev pub line_if_visible : Bool → Line → Line
line_if_visible visible line = if visible then line else Passed

-- what a node with these tags says
unfoldable pub node_by_tags : List ℕ → List (List ℕ) → List (List ℕ × List ℕ) → Option Line
node_by_tags text fields tags = do
  id ← osm_id_at text
  visible ← visible_of fields
  place ← place_in fields
  Some (line_if_visible visible (Node (record { id = id; place = place; amenity = amenity_of tags })))

-- what a way with these tags and references says
unfoldable pub way_by_tags : List ℕ → List (List ℕ) → List (List ℕ × List ℕ) → List ℤ → Option Line
way_by_tags text fields tags references = do
  id ← osm_id_at text
  visible ← visible_of fields
  Some (line_if_visible visible (Way (record { id = id; tags = tags; references = references })))

-- what an id and fields say of a node, if they are of the form of one
unfoldable pub node_by_fields : List ℕ → List (List ℕ) → Option Line
node_by_fields id fields = do
  tags ← tags_in element.Node fields
  node_by_tags id fields tags

-- the same of a way
unfoldable pub way_by_fields : List ℕ → List (List ℕ) → Option Line
way_by_fields id fields = do
  tags ← tags_in element.Way fields
  references ← references_in fields
  way_by_tags id fields tags references

abbrev pub element_line : Element → List ℕ → List (List ℕ) → Option Line
element_line element.Node id fields = node_by_fields id fields
element_line element.Way id fields = way_by_fields id fields

-- an id, and the fields behind it: what has not the form of an element is bad
abbrev pub words_line : Element → List (List ℕ) → Line
words_line element [] = Bad
words_line element (id ∷ fields) = if list_all is_field fields then unwrap_or (element_line element id fields) Bad else Bad

-- a tab, or any byte but the control characters and the delete character
abbrev pub is_plain_byte : ℕ → Bool
is_plain_byte b = b == 9 || (nat_le 32 b && not (b == 127))

-- what the text behind the letter of an element says
unfoldable pub text_line : Element → List ℕ → Line
text_line element text = if list_all is_plain_byte text then words_line element (at_blanks text) else Bad

-- What a line says. An empty line says nothing, nor does one that begins with `#`, `r` or `c`.
unfoldable pub map_line_of : List ℕ → Line
map_line_of [] = Passed
map_line_of (b ∷ text) =
    if b == 110 then text_line element.Node text
    else (if b == 119 then text_line element.Way text
    else (if b == 35 || (b == 114 || b == 99) then Passed else Bad))
