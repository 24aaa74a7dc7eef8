-- What a run says that reads the files of a timetable feed.
use Rattle.std.specs.Prelude.{◌≡◌, ℕ, ◌⊎◌, ⊤, Bool, true, false, List, [], ◌∷◌, ◌++◌, codes, Option, Some, None, option_map, slice_get, unwrap_or, Result, Ok, Err}
use Rattle.std.specs.Borrow.{Bor}
use Rattle.plan_base.specs.{ShelfMeaning, IsLater, HasRead, Told, Stays, Caps}
use Rattle.gtfs_tables.specs.{FeedFile, FeedFiles, FeedFault, feed_of, file_name, FeedLists.FeedLists}
use Rattle.gtfs_tables.specs.declared.files.FeedFile.TheVariants as file
use Rattle.run_steps.specs.{declared.outcome.FileRole.TheVariants.Feed, Outcome, BadFeed, with_shelf, Saying, Ends, IsUnread, IsUnreadable, most_bytes, Scene.Scene}
use Rattle.run_steps.specs.declared.outcome.SourceFault.TheVariants as source

-- the files of a feed in the order in which they are read
abbrev pub in_order : List FeedFile
in_order = file.Agency ∷ file.Stops ∷ file.Routes ∷ file.Calendar ∷ file.CalendarDates ∷ file.Trips ∷ file.Frequencies ∷ file.StopTimes ∷ []

-- of the two calendar files each may be absent, and so may the headways
abbrev pub may_be_absent : FeedFile → Bool
may_be_absent file.Calendar = true
may_be_absent file.CalendarDates = true
may_be_absent file.Frequencies = true
may_be_absent file.Agency = false
may_be_absent file.Stops = false
may_be_absent file.Routes = false
may_be_absent file.Trips = false
may_be_absent file.StopTimes = false

-- a file of the feed in this folder
abbrev pub path_of : List ℕ → FeedFile → List ℕ
path_of folder table = folder ++ codes "/" ++ file_name table

-- what a file of the feed holds, where it was read; or none, where it is absent and may be
abbrev pub IsFileOfFeed : ShelfMeaning → List ℕ → FeedFile → Option (List ℕ) → Type 0
IsFileOfFeed shelf folder table (Some bytes) = HasRead shelf (path_of folder table) most_bytes bytes
IsFileOfFeed shelf folder table None = (may_be_absent table ≡ true) × Told shelf (path_of folder table) (λ held. held ≡ None)

-- what each of these files holds
abbrev pub AreTables : ShelfMeaning → List ℕ → List FeedFile → List (Option (List ℕ)) → Type 0
AreTables shelf folder [] [] = Unit {0}
AreTables shelf folder [] (text ∷ texts) = ⊥
AreTables shelf folder (table ∷ tables) [] = ⊥
AreTables shelf folder (table ∷ tables) (text ∷ texts) = IsFileOfFeed shelf folder table text × AreTables shelf folder tables texts

-- why a file of the feed was not read whole: one that may be absent is not missed
abbrev pub IsTableUnread : ShelfMeaning → ShelfMeaning → List ℕ → FeedFile → Bool → Outcome → Type 0
IsTableUnread old new folder table true outcome = IsUnreadable old new (path_of folder table) (Feed table) outcome
IsTableUnread old new folder table false outcome = IsUnread old new (path_of folder table) (Feed table) outcome

-- one of the files was not read whole, and those before it were
pub record IsFeedUnread (old new : ShelfMeaning) (folder : List ℕ) (order : List FeedFile) (outcome : Outcome) : Type 0 where
  pub earlier : List FeedFile
  pub table : FeedFile
  pub later : List FeedFile
  pub split : order ≡ earlier ++ table ∷ later
  pub texts : List (Option (List ℕ))
  pub read : AreTables old folder earlier texts
  pub unread : IsTableUnread old new folder table (may_be_absent table) outcome

-- where a file of the feed stands in the order
abbrev pub order_of_file : FeedFile → ℕ
order_of_file file.Agency = 0
order_of_file file.Stops = 1
order_of_file file.Routes = 2
order_of_file file.Calendar = 3
order_of_file file.CalendarDates = 4
order_of_file file.Trips = 5
order_of_file file.Frequencies = 6
order_of_file file.StopTimes = 7

-- what one of the files holds, where these are what they hold in order
abbrev pub text_of : List (Option (List ℕ)) → FeedFile → Option (List ℕ)
text_of texts table = unwrap_or (slice_get texts (order_of_file table)) None

-- bytes as they are lent, wherever they are
abbrev pub lent : Option (List ℕ) → Option (Bor (List ℕ))
lent text = option_map (λ bytes. record { ref_ptr = (0, 0); now = bytes }) text

-- the files of a feed that hold this in order
abbrev pub feed_files_of : List (Option (List ℕ)) → FeedFiles
feed_files_of texts = record {
  agency = lent (text_of texts file.Agency);
  stops = lent (text_of texts file.Stops);
  routes = lent (text_of texts file.Routes);
  calendar = lent (text_of texts file.Calendar);
  calendar_dates = lent (text_of texts file.CalendarDates);
  trips = lent (text_of texts file.Trips);
  frequencies = lent (text_of texts file.Frequencies);
  stop_times = lent (text_of texts file.StopTimes);
}

-- what the files give: the lists of the feed, or their first fault
abbrev pub OnLists : Result FeedLists FeedFault → (FeedLists → Saying) → Saying
OnLists (Ok feed) rest old new outcome = rest feed old new outcome
OnLists (Err fault) rest old new outcome = Ends (BadFeed (source.Feed fault)) old new outcome

-- all files were read, and the rest of the run says this of what they hold
pub record HasTables (folder : List ℕ) (rest : List (Option (List ℕ)) → Saying) (old new : Scene ⊤) (outcome : Outcome) : Type 0 where
  pub texts : List (Option (List ℕ))
  pub read : AreTables old.shelf folder in_order texts
  pub mid : ShelfMeaning
  pub later : IsLater old.shelf mid
  pub says : rest texts (with_shelf old mid) new outcome

-- the files of a feed are read, one after the other
abbrev pub OnFeed : Caps → List ℕ → (FeedLists → Saying) → Saying
OnFeed caps folder rest old new outcome =
    (IsFeedUnread old.shelf new.shelf folder in_order outcome × Stays old.out new.out)
    ⊎ HasTables folder (λ texts. OnLists (feed_of caps (feed_files_of texts)) rest) old new outcome
