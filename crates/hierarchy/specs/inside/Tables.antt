-- The tables that are made of an order and of entries.
use Rattle.std.specs.Prelude.{◌≡◌, ℕ, ◌<◌, List, All}
use Rattle.hierarchy.specs.{declared.entry.Entry.Entry, declared.tables.Tables.Tables, Lookups.places_of, Indexes.AreEndsBelow, Indexes.AreFallTables, Indexes.AreHeights, Indexes.AreRows, Rises.is_rise, Rises.legs_of_rises, Rises.rises_in}

pub record AreTablesOf (order : List ℕ) (entries : List Entry) (tables : Tables) : Type 0 where
  pub order_below : All (λ v. v < tables.nodes) order
  pub entries_below : All (AreEndsBelow tables.nodes) entries
  pub heights : AreHeights tables.nodes order tables.heights.items
  pub rows : AreRows order entries tables.nodes tables.rows.items
  pub rises : tables.rises.items ≡ places_of (is_rise order) entries
  pub legs : tables.legs.items ≡ legs_of_rises (rises_in order entries)
  pub falls : AreFallTables order entries tables.nodes tables.fall_offsets.items tables.falls.items
