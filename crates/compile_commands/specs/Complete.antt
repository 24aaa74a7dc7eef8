-- What can be compiled: the files of a map and a feed that are there and without fault, and whose region is.
use Rattle.std.specs.Prelude.{◌≡◌, ◌≤◌, ℕ, List, [], ◌∷◌, length, true, Option, Some, None, Ok}
use Rattle.plan_base.specs.{Caps}
use Rattle.service_days.specs.DaysMeaning.{DaysMeaning}
use Rattle.opl_reader.specs.{ObjectLists.ObjectLists, objects_of}
use Rattle.gtfs_tables.specs.{FeedFile, feed_of, FeedLists.FeedLists}
use Rattle.region_build.specs.{HasFault, BuildFault}
use Rattle.run_steps.specs.{Files, most_bytes}
use Rattle.compile_commands.specs.Feeds.{feed_files_of, in_order, may_be_absent, path_of}

-- the bytes spell a map's objects that have P
abbrev pub SpellsObjects : Caps → (ObjectLists → Type 0) → List ℕ → Type 0
SpellsObjects caps P bytes = (objects : ObjectLists) × (objects_of caps bytes ≡ Ok objects) × P objects

-- what a file of the feed holds, which has not too many bytes; or none, where it is absent and may be
abbrev pub IsTableHeld : Files → List ℕ → FeedFile → Option (List ℕ) → Type 0
IsTableHeld files folder table (Some bytes) = (files (path_of folder table) ≡ Some bytes) × (length bytes ≤ most_bytes)
IsTableHeld files folder table None = (files (path_of folder table) ≡ None) × (may_be_absent table ≡ true)

abbrev pub AreTablesHeld : Files → List ℕ → List FeedFile → List (Option (List ℕ)) → Type 0
AreTablesHeld files folder [] [] = Unit {0}
AreTablesHeld files folder [] (text ∷ texts) = ⊥
AreTablesHeld files folder (table ∷ tables) [] = ⊥
AreTablesHeld files folder (table ∷ tables) (text ∷ texts) = IsTableHeld files folder table text × AreTablesHeld files folder tables texts

-- the files of the feed in this folder are there and without fault, and its lists have P
pub record IsFeedHeld (caps : Caps) (files : Files) (folder : List ℕ) (P : FeedLists → Type 0) : Type 0 where
  pub texts : List (Option (List ℕ))
  pub held : AreTablesHeld files folder in_order texts
  pub feed : FeedLists
  pub spells : feed_of caps (feed_files_of texts) ≡ Ok feed
  pub fine : P feed

-- a map and a feed give a region over these days
abbrev pub GivesRegion : Caps → ObjectLists → DaysMeaning → FeedLists → Type 0
GivesRegion caps objects days feed = (fault : BuildFault) → HasFault caps objects feed days fault → ⊥
