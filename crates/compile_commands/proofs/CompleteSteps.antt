-- A region whose map and feed are there and without fault is compiled, step by step.
use Rattle.plan_base.proofs.Common.{◌≡◌, ℕ, ◌<◌, ◌∙◌, inl, inr, List, [], ◌∷◌, ◌++◌, Bool, true, false, Option, Some, None, Ok, refl, ap, sym, subst, Result, IfSome, IsSomeAnd, length}
use Rattle.plan_base.specs.{Rose, ShelfMeaning, Told, Caps}
use Rattle.service_days.specs.DaysMeaning.{DaysMeaning}
use Rattle.opl_reader.specs.{ObjectLists.ObjectLists, objects_of, OplFault}
use Rattle.gtfs_tables.specs.{FeedFile, FeedFault, feed_of, FeedLists.FeedLists}
use Rattle.mode_network.specs.NetworkLists.{NetworkLists}
use Rattle.run_steps.specs.declared.outcome.FileRole.TheVariants as role
use Rattle.run_steps.specs.{Outcome, Done, Usage, Missing, ReadFault, TooLong, WriteFault, BadRegion, BadFeed, Invalid, BadCertificate, BadHierarchy, Unsound, OutOfMemory, with_shelf, Saying, IsUnread, IsUnreadable, most_bytes, Files, IsHeld, IsDoneOrMemory, Completes}
use Rattle.run_steps.proofs.CompleteSteps.{file_completes, quiet_later, told_held, unread}
use Rattle.compile_commands.specs.{BeginsSo, OnObjects, OnMap, AreTables, IsFileOfFeed, IsTableUnread, OnLists, OnFeed, feed_files_of, in_order, may_be_absent, path_of, OnBuild, AreTablesHeld, GivesRegion, IsFeedHeld, IsTableHeld, SpellsObjects}

module _ (files : Files) where
  -- ---- maps

  objects_complete : (caps : Caps) (P : ObjectLists → Type 0) (rest : ObjectLists → Saying) → ((objects : ObjectLists) → Completes files (P objects) (rest objects))
      → (bytes : List ℕ) → Completes files (SpellsObjects caps P bytes) (OnObjects (objects_of caps bytes) rest)
  objects_complete caps P rest more bytes (objects, spells, p) old new outcome tells quiet said =
      more objects p old new outcome tells quiet (subst (λ (r : Result ObjectLists OplFault). OnObjects r rest old new outcome) spells said)

  -- a map without fault is not refused early
  pub map_completes : (caps : Caps) (name : List ℕ) (P : ObjectLists → Type 0) (rest : ObjectLists → Saying) → ((objects : ObjectLists) → Completes files (P objects) (rest objects))
      → Completes files (IsHeld role.Opl files name (SpellsObjects caps P)) (OnMap caps name rest)
  map_completes caps name P rest more held old new outcome tells quiet (inl (fault, shows, ends)) =
      let front = told_held old.shelf files name held.bytes tells held.held (λ h. IsSomeAnd h (BeginsSo shows.bytes)) shows.front in
      let bad = shows.first.stays front.0 in
      let whole : objects_of caps held.bytes ≡ objects_of caps (shows.bytes ++ front.0) = ap (objects_of caps) front.1 in
      let good = held.fine.1 in
      absurd (cc)
  map_completes caps name P rest more held old new outcome tells quiet (inr on) =
      file_completes files role.Opl name (SpellsObjects caps P) (λ bytes. OnObjects (objects_of caps bytes) rest) (objects_complete caps P rest more)
      held old new outcome tells quiet on

  -- ---- feeds

  -- a file of the feed that is held is read
  readable : (old new : ShelfMeaning) (name : List ℕ) (table : FeedFile) (outcome : Outcome) → IsUnreadable old new name (role.Feed table) outcome → IsUnread old new name (role.Feed table) outcome
  readable old new name table (ReadFault other) why = why
  readable old new name table (TooLong other) why = why
  readable old new name table OutOfMemory why = why
  readable old new name table (Missing other) why = absurd why
  readable old new name table Done why = why
  readable old new name table Usage why = why
  readable old new name table WriteFault why = why
  readable old new name table (BadRegion fault) why = why
  readable old new name table (BadFeed fault) why = why
  readable old new name table (Invalid clause at) why = why
  readable old new name table (BadCertificate line) why = why
  readable old new name table (BadHierarchy fault) why = why
  readable old new name table (Unsound clause at by) why = why

  as_unread : (old new : ShelfMeaning) (folder : List ℕ) (table : FeedFile) (may : Bool) (outcome : Outcome) → IsTableUnread old new folder table may outcome
      → IsUnread old new (path_of folder table) (role.Feed table) outcome
  as_unread old new folder table true outcome why = readable old new (path_of folder table) table outcome why
  as_unread old new folder table false outcome why = why

  -- what a shelf tells that holds no such file
  told_none : (old : ShelfMeaning) (name : List ℕ) (P : List ℕ → Type 0) → old.files ≡ Some files → files name ≡ None → Told old name (λ held. IsSomeAnd held P) → ⊥
  told_none old name P tells none told =
      subst (λ (h : Option (List ℕ)). IsSomeAnd h P) none (subst (λ (f : Option Files). IfSome f (λ g. IsSomeAnd (g name) P)) tells told)

  -- one that is absent is not too long
  absent : (old new : ShelfMeaning) (name : List ℕ) (table : FeedFile) → old.files ≡ Some files → files name ≡ None → (Rose old.faults new.faults → ⊥)
      → (outcome : Outcome) → IsUnreadable old new name (role.Feed table) outcome → IsDoneOrMemory outcome
  absent old new name table tells none quiet (ReadFault other) (e, rose) = absurd (quiet rose)
  absent old new name table tells none quiet (TooLong other) (e, told) = absurd (told_none old name (λ bytes. most_bytes < length bytes) tells none told)
  absent old new name table tells none quiet OutOfMemory why = why
  absent old new name table tells none quiet (Missing other) why = why
  absent old new name table tells none quiet Done why = absurd why
  absent old new name table tells none quiet Usage why = why
  absent old new name table tells none quiet WriteFault why = why
  absent old new name table tells none quiet (BadRegion fault) why = why
  absent old new name table tells none quiet (BadFeed fault) why = why
  absent old new name table tells none quiet (Invalid clause at) why = why
  absent old new name table tells none quiet (BadCertificate line) why = why
  absent old new name table tells none quiet (BadHierarchy fault) why = why
  absent old new name table tells none quiet (Unsound clause at by) why = why

  table_unread : (old new : ShelfMeaning) (folder : List ℕ) (table : FeedFile) (text : Option (List ℕ)) → IsTableHeld files folder table text → old.files ≡ Some files
      → (Rose old.faults new.faults → ⊥) → (outcome : Outcome) → IsTableUnread old new folder table (may_be_absent table) outcome → IsDoneOrMemory outcome
  table_unread old new folder table (Some bytes) held tells quiet outcome why =
      unread files old new (role.Feed table) (path_of folder table) (λ bytes. Unit {0}) (record { bytes = bytes; held = held.0; within = held.1; fine = tt }) tells quiet outcome
      (as_unread old new folder table (may_be_absent table) outcome why)
  table_unread old new folder table None held tells quiet outcome why =
      absent old new (path_of folder table) table tells held.0 quiet outcome (subst (λ (may : Bool). IsTableUnread old new folder table may outcome) held.1 why)

  -- one of the files in a row
  held_among : (folder : List ℕ) (earlier : List FeedFile) (table : FeedFile) (later : List FeedFile) (texts : List (Option (List ℕ)))
      → AreTablesHeld files folder (earlier ++ table ∷ later) texts → (text : Option (List ℕ)) × IsTableHeld files folder table text
  held_among folder [] table later [] held = absurd held
  held_among folder [] table later (text ∷ texts) held = (text, held.0)
  held_among folder (first ∷ earlier) table later [] held = absurd held
  held_among folder (first ∷ earlier) table later (text ∷ texts) held = held_among folder earlier table later texts held.1

  -- what is read is what is held
  same_text : (old : ShelfMeaning) (folder : List ℕ) (table : FeedFile) (text other : Option (List ℕ)) → old.files ≡ Some files
      → IsTableHeld files folder table text → IsFileOfFeed old folder table other → other ≡ text
  same_text old folder table (Some bytes) (Some other) tells held read =
      let is = told_held old files (path_of folder table) bytes tells held.0 (λ h. h ≡ Some other) read.file in
      sym is
  same_text old folder table (Some bytes) None tells held read =
      let is = told_held old files (path_of folder table) bytes tells held.0 (λ h. h ≡ None) read.1 in
      absurd (cc)
  same_text old folder table None None tells held read = refl
  same_text old folder table None (Some other) tells held read =
      let is = subst (λ (f : Option Files). IfSome f (λ g. g (path_of folder table) ≡ Some other)) tells read.file in
      let none = held.0 in
      absurd (cc)

  same_texts : (old : ShelfMeaning) (folder : List ℕ) (tables : List FeedFile) (texts others : List (Option (List ℕ))) → old.files ≡ Some files
      → AreTablesHeld files folder tables texts → AreTables old folder tables others → others ≡ texts
  same_texts old folder [] [] [] tells held read = refl
  same_texts old folder [] [] (other ∷ others) tells held read = absurd read
  same_texts old folder [] (text ∷ texts) others tells held read = absurd held
  same_texts old folder (table ∷ tables) [] others tells held read = absurd held
  same_texts old folder (table ∷ tables) (text ∷ texts) [] tells held read = absurd read
  same_texts old folder (table ∷ tables) (text ∷ texts) (other ∷ others) tells held read =
      let first = same_text old folder table text other tells held.0 read.0 in
      let rest = same_texts old folder tables texts others tells held.1 read.1 in
      cc

  pub feed_completes : (caps : Caps) (folder : List ℕ) (P : FeedLists → Type 0) (rest : FeedLists → Saying) → ((feed : FeedLists) → Completes files (P feed) (rest feed))
      → Completes files (IsFeedHeld caps files folder P) (OnFeed caps folder rest)
  feed_completes caps folder P rest more held old new outcome tells quiet (inl (cut, same)) =
      let one = held_among folder cut.earlier cut.table cut.later held.texts (subst (λ (tables : List FeedFile). AreTablesHeld files folder tables held.texts) cut.split held.held) in
      table_unread old.shelf new.shelf folder cut.table one.0 one.1 tells quiet.shelf outcome cut.unread
  feed_completes caps folder P rest more held old new outcome tells quiet (inr on) =
      let texts : on.texts ≡ held.texts = same_texts old.shelf folder in_order held.texts on.texts tells held.held on.read in
      let spells : feed_of caps (feed_files_of on.texts) ≡ Ok held.feed = ap (λ (t : List (Option (List ℕ))). feed_of caps (feed_files_of t)) texts ∙ held.spells in
      more held.feed held.fine (with_shelf old on.mid) new outcome (on.later.files ∙ tells) (quiet_later old new on.mid on.later quiet)
      (subst (λ (r : Result FeedLists FeedFault). OnLists r rest (with_shelf old on.mid) new outcome) spells on.says)

  -- ---- regions

  pub build_completes : (caps : Caps) (objects : ObjectLists) (feed : FeedLists) (days : DaysMeaning) (rest : NetworkLists → Saying) → ((n : NetworkLists) → Completes files (Unit {0}) (rest n))
      → Completes files (GivesRegion caps objects days feed) (OnBuild caps objects feed days rest)
  build_completes caps objects feed days rest more gives old new outcome tells quiet (inl (fault, has, ends)) = absurd (gives fault has)
  build_completes caps objects feed days rest more gives old new outcome tells quiet (inr (inl (e, same))) =
      subst IsDoneOrMemory (sym e) tt
  build_completes caps objects feed days rest more gives old new outcome tells quiet (inr (inr (n, compiled, says))) =
      more n tt old new outcome tells quiet says
