-- The files of a feed that are read one after the other.
use Rattle.plan_base.proofs.Common.{◌≡◌, ℕ, suc, get_or, ◌+◌, ◌<◌, ◌∙◌, List, [], ◌∷◌, ◌++◌, take, drop, length, Bool, true, false, Option, Some, None, Err, refl, ap, sym, subst, is_some, option_map, Bor, drop-cons, take-append-drop, take_more}
use Rattle.plan_base.specs.{ShelfMeaning, IsLater, Caps}
use Rattle.gtfs_tables.specs.{FeedFile, FeedFiles, FeedFault, MissingFile, ◌>>=◌, faultless, bytes_of, feed_of, missing_file, tables_of, required, first_absent}
use Rattle.run_steps.specs.{declared.outcome.FileRole.TheVariants.Feed, Outcome, Done, Usage, Missing, ReadFault, TooLong, WriteFault, BadRegion, BadFeed, Invalid, BadCertificate, BadHierarchy, Unsound, OutOfMemory}
use Rattle.run_steps.specs.declared.outcome.SourceFault.TheVariants as source
use Rattle.gtfs_tables.specs.declared.files.FeedFile.TheVariants as file
use Rattle.compile_commands.specs.{inside.IsFeedOutcome, inside.IsListsOutcome, AreTables, IsFeedUnread, IsFileOfFeed, IsTableUnread, in_order, lent, may_be_absent, path_of}
use Rattle.run_steps.proofs.Steps.{told_before, unread_before, unreadable_before}

-- a table more
pub tables_more : (shelf : ShelfMeaning) (folder : List ℕ) (tables : List FeedFile) (texts : List (Option (List ℕ))) (table : FeedFile) (text : Option (List ℕ))
    → AreTables shelf folder tables texts → IsFileOfFeed shelf folder table text → AreTables shelf folder (tables ++ table ∷ []) (texts ++ text ∷ [])
tables_more shelf folder [] [] table text are is = (is, tt)
tables_more shelf folder [] (other ∷ texts) table text are is = absurd are
tables_more shelf folder (first ∷ tables) [] table text are is = absurd are
tables_more shelf folder (first ∷ tables) (other ∷ texts) table text are is = (are.0, tables_more shelf folder tables texts table text are.1 is)

-- what a later state says of a file, an earlier one does
pub table_before : (old mid : ShelfMeaning) → IsLater old mid → (folder : List ℕ) (table : FeedFile) (text : Option (List ℕ)) → IsFileOfFeed mid folder table text → IsFileOfFeed old folder table text
table_before old mid later folder table None is = (is.0, told_before old mid later (path_of folder table) (λ held. held ≡ None) is.1)
table_before old mid later folder table (Some bytes) is = record { file = told_before old mid later (path_of folder table) (λ held. held ≡ Some bytes) is.file; within = is.within }

pub table_unread_before : (old mid new : ShelfMeaning) → IsLater old mid → (folder : List ℕ) (table : FeedFile) (may : Bool) (outcome : Outcome)
    → IsTableUnread mid new folder table may outcome → IsTableUnread old new folder table may outcome
table_unread_before old mid new later folder table true outcome why = unreadable_before old mid new later (path_of folder table) (Feed table) outcome why
table_unread_before old mid new later folder table false outcome why = unread_before old mid new later (path_of folder table) (Feed table) outcome why

-- memory ran out
memory_out : (old new : ShelfMeaning) (folder : List ℕ) (table : FeedFile) (may : Bool) → IsTableUnread old new folder table may OutOfMemory
memory_out old new folder table true = tt
memory_out old new folder table false = tt

pub feed_memory : (old new : ShelfMeaning) (folder : List ℕ) → IsFeedUnread old new folder in_order OutOfMemory
feed_memory old new folder = record {
  earlier = [];
  table = file.Agency;
  later = drop 1 in_order;
  split = refl;
  texts = [];
  read = tt;
  unread = tt;
}

-- a file in a row was not read
module _ (old mid new : ShelfMeaning) (later : IsLater old mid) (folder : List ℕ) (tables : List FeedFile) (place : ℕ) (d : FeedFile) (within : place < length tables)
    (texts : List (Option (List ℕ))) (read : AreTables old folder (take place tables) texts) where
  split_at : tables ≡ take place tables ++ get_or tables place d ∷ drop (suc place) tables
  split_at = sym (take-append-drop place tables) ∙ ap (λ (rest : List FeedFile). take place tables ++ rest) (drop-cons tables place d within)

  pub unread_at : (outcome : Outcome) → IsTableUnread mid new folder (get_or tables place d) (may_be_absent (get_or tables place d)) outcome → IsFeedUnread old new folder tables outcome
  unread_at outcome why = record {
    earlier = take place tables;
    table = get_or tables place d;
    later = drop (suc place) tables;
    split = split_at;
    texts = texts;
    read = read;
    unread = table_unread_before old mid new later folder (get_or tables place d) (may_be_absent (get_or tables place d)) outcome why;
  }

  pub memory_at : IsFeedUnread old new folder tables OutOfMemory
  memory_at = unread_at OutOfMemory (memory_out mid new folder (get_or tables place d) (may_be_absent (get_or tables place d)))

  -- it was read
  pub tables_at : (text : Option (List ℕ)) → IsFileOfFeed mid folder (get_or tables place d) text → AreTables old folder (take (place + 1) tables) (texts ++ text ∷ [])
  tables_at text is =
      subst (λ (ts : List FeedFile). AreTables old folder ts (texts ++ text ∷ [])) (sym (take_more tables place d within))
      (tables_more old folder (take place tables) texts (get_or tables place d) text read (table_before old mid later folder (get_or tables place d) text is))

-- the files were read, and are no feed
pub lists_fail : (caps : Caps) (old new : ShelfMeaning) (folder : List ℕ) (texts : List (Option (List ℕ))) → AreTables old folder in_order texts
    → (outcome : Outcome) → IsListsOutcome caps texts outcome → IsFeedOutcome caps old new folder outcome
lists_fail caps old new folder texts read (BadFeed (source.Feed fault)) first = record { texts = texts; read = read; first = first }
lists_fail caps old new folder texts read (BadFeed (source.Opl fault)) none = absurd none
lists_fail caps old new folder texts read (BadFeed (source.Build fault)) none = absurd none
lists_fail caps old new folder texts read OutOfMemory none = feed_memory old new folder
lists_fail caps old new folder texts read (Missing other) none = absurd none
lists_fail caps old new folder texts read (ReadFault other) none = absurd none
lists_fail caps old new folder texts read (TooLong other) none = absurd none
lists_fail caps old new folder texts read Done none = absurd none
lists_fail caps old new folder texts read Usage none = absurd none
lists_fail caps old new folder texts read WriteFault none = absurd none
lists_fail caps old new folder texts read (BadRegion fault) none = absurd none
lists_fail caps old new folder texts read (Invalid clause at) none = absurd none
lists_fail caps old new folder texts read (BadCertificate line) none = absurd none
lists_fail caps old new folder texts read (BadHierarchy fault) none = absurd none
lists_fail caps old new folder texts read (Unsound clause at by) none = absurd none

-- ---- files that hold the same

same_some : (a b : Option (Bor (List ℕ))) → bytes_of a ≡ bytes_of b → is_some a ≡ is_some b
same_some None None e = refl
same_some None (Some b) e = absurd (cc)
same_some (Some a) None e = absurd (cc)
same_some (Some a) (Some b) e = refl

pub lent_is : (text : Option (List ℕ)) → bytes_of (lent text) ≡ text
lent_is None = refl
lent_is (Some bytes) = refl

module _ (caps : Caps) (a b : FeedFiles)
    (agency : bytes_of a.agency ≡ bytes_of b.agency) (stops : bytes_of a.stops ≡ bytes_of b.stops) (routes : bytes_of a.routes ≡ bytes_of b.routes)
    (calendar : bytes_of a.calendar ≡ bytes_of b.calendar) (dates : bytes_of a.calendar_dates ≡ bytes_of b.calendar_dates) (trips : bytes_of a.trips ≡ bytes_of b.trips)
    (headways : bytes_of a.frequencies ≡ bytes_of b.frequencies) (calls : bytes_of a.stop_times ≡ bytes_of b.stop_times) where
  same_required : required a ≡ required b
  same_required =
      rw (
        same_some a.agency b.agency agency,
        same_some a.stops b.stops stops,
        same_some a.routes b.routes routes,
        same_some a.calendar b.calendar calendar,
        same_some a.calendar_dates b.calendar_dates dates,
        same_some a.trips b.trips trips,
        same_some a.stop_times b.stop_times calls,
      ) refl

  same_tables : tables_of caps a ≡ tables_of caps b
  same_tables = rw (agency, stops, routes, calendar, dates, trips, headways, calls) refl

  same_behind : (fault other : Option FeedFault) → fault ≡ other → (faultless fault a >>= tables_of caps) ≡ (faultless other b >>= tables_of caps)
  same_behind None None e = same_tables
  same_behind None (Some other) e = absurd (cc)
  same_behind (Some fault) None e = absurd (cc)
  same_behind (Some fault) (Some other) e = let same : fault ≡ other = cc in ap Err same

  pub same_feed : feed_of caps a ≡ feed_of caps b
  unfolding feed_of
  same_feed = same_behind (missing_file a) (missing_file b) (ap (λ (r : List (FeedFile × Bool)). option_map MissingFile (first_absent r)) same_required)
