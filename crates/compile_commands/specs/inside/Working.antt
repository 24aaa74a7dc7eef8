-- What the steps of compiling answer: what was read, and why nothing was.
use Rattle.std.specs.Prelude.{◌≡◌, ℕ, ◌⊎◌, List, Option, Ok, Err, length}
use Rattle.plan_base.specs.{ShelfMeaning, HasRead, Told, Caps}
use Rattle.plan_base.proofs.MoreRead.{IsFrontOf}
use Rattle.service_days.specs.DaysMeaning.{DaysMeaning}
use Rattle.opl_reader.specs.{ObjectLists.ObjectLists, objects_of, OplState, HasTaken, IsEndedFault, OplFault}
use Rattle.gtfs_tables.specs.{FeedLists.FeedLists, feed_of, FeedFault}
use Rattle.region_build.specs.{HasFault}
use Rattle.run_steps.specs.declared.outcome.FileRole.TheVariants as role
use Rattle.run_steps.specs.{Outcome, BadFeed, OutOfMemory, IsUnread, most_bytes}
use Rattle.run_steps.specs.declared.outcome.SourceFault.TheVariants as source
use Rattle.compile_commands.specs.{Maps.ShowsFault, Feeds.AreTables, Feeds.IsFeedUnread, Feeds.feed_files_of, Feeds.in_order}

-- ---- maps

-- how far a map is read: the reader took a front of the file, of so many bytes
pub record HasFed (caps : Caps) (shelf : ShelfMeaning) (name : List ℕ) (reader : OplState) (count : ℕ) : Type 0 where
  pub bytes : List ℕ
  pub front : Told shelf name (IsFrontOf bytes)
  pub long : length bytes ≡ count
  pub taken : HasTaken reader caps bytes

-- why a piece that ends these bytes was not taken
abbrev pub IsPieceRefusal : Caps → List ℕ → Outcome → Type 0
IsPieceRefusal caps bytes (BadFeed (source.Opl fault)) = IsEndedFault caps bytes fault
IsPieceRefusal caps bytes OutOfMemory = Unit {0}
IsPieceRefusal caps bytes _ = ⊥

-- why the bytes of a map give no objects
abbrev pub IsEndOutcome : Caps → List ℕ → Outcome → Type 0
IsEndOutcome caps bytes (BadFeed (source.Opl fault)) = objects_of caps bytes ≡ Err fault
IsEndOutcome caps bytes OutOfMemory = Unit {0}
IsEndOutcome caps bytes _ = ⊥

-- the map was read, and has these objects
pub record HasMap (caps : Caps) (shelf : ShelfMeaning) (name : List ℕ) (objects : ObjectLists) : Type 0 where
  pub bytes : List ℕ
  pub file : HasRead shelf name most_bytes bytes
  pub spells : objects_of caps bytes ≡ Ok objects

-- the map was read, and this is its first fault
pub record HasBadMap (caps : Caps) (shelf : ShelfMeaning) (name : List ℕ) (fault : OplFault) : Type 0 where
  pub bytes : List ℕ
  pub file : HasRead shelf name most_bytes bytes
  pub first : objects_of caps bytes ≡ Err fault

-- why no map was read
abbrev pub IsMapOutcome : Caps → ShelfMeaning → ShelfMeaning → List ℕ → Outcome → Type 0
IsMapOutcome caps old new name (BadFeed (source.Opl fault)) = ShowsFault caps old name fault ⊎ HasBadMap caps old name fault
IsMapOutcome caps old new name outcome = IsUnread old new name role.Opl outcome

-- ---- feeds

-- the files of a feed were read, and it has these lists
pub record HasFeed (caps : Caps) (shelf : ShelfMeaning) (folder : List ℕ) (feed : FeedLists) : Type 0 where
  pub texts : List (Option (List ℕ))
  pub read : AreTables shelf folder in_order texts
  pub spells : feed_of caps (feed_files_of texts) ≡ Ok feed

-- they were, and this is their first fault
pub record HasBadFeed (caps : Caps) (shelf : ShelfMeaning) (folder : List ℕ) (fault : FeedFault) : Type 0 where
  pub texts : List (Option (List ℕ))
  pub read : AreTables shelf folder in_order texts
  pub first : feed_of caps (feed_files_of texts) ≡ Err fault

-- why no feed was read
abbrev pub IsFeedOutcome : Caps → ShelfMeaning → ShelfMeaning → List ℕ → Outcome → Type 0
IsFeedOutcome caps old new folder (BadFeed (source.Feed fault)) = HasBadFeed caps old folder fault
IsFeedOutcome caps old new folder outcome = IsFeedUnread old new folder in_order outcome

-- why what files hold is no feed
abbrev pub IsListsOutcome : Caps → List (Option (List ℕ)) → Outcome → Type 0
IsListsOutcome caps texts (BadFeed (source.Feed fault)) = feed_of caps (feed_files_of texts) ≡ Err fault
IsListsOutcome caps texts OutOfMemory = Unit {0}
IsListsOutcome caps texts _ = ⊥

-- ---- regions

-- why a map and a feed give no region
abbrev pub IsBuildOutcome : Caps → ObjectLists → FeedLists → DaysMeaning → Outcome → Type 0
IsBuildOutcome caps objects feed days (BadFeed (source.Build fault)) = HasFault caps objects feed days fault
IsBuildOutcome caps objects feed days OutOfMemory = Unit {0}
IsBuildOutcome caps objects feed days _ = ⊥
