-- What the steps of a run answer, put together to what the run says.
use Rattle.plan_base.proofs.Common.{◌≡◌, ℕ, ◌<◌, ◌≤◌, ◌∙◌, inl, inr, List, Option, None, Ok, Err, take, refl, subst, arith, rules, ⊤, Result, IfErr, IfSome, IsSomeAnd, OnOk, length}
use Rattle.plan_base.specs.{Rose, ShelfMeaning, IsLater, HasRead, Told, SinkMeaning, Appended, Stays, Caps}
use Rattle.mode_network.specs.NetworkLists.{NetworkLists}
use Rattle.region_file.specs.{RegionFault, IsRefusedRegion}
use Rattle.region_file.specs.declared.fault.RegionFault.TheVariants as no
use Rattle.run_steps.specs.{Outcome, Done, Usage, Missing, ReadFault, TooLong, WriteFault, BadRegion, BadFeed, Invalid, BadCertificate, BadHierarchy, Unsound, OutOfMemory, FileRole, Region, scene, Saying, IsUnread, IsUnreadable, WritesText, end_of, most_of, OnRegion, HasRegion, IsRegionOutcome, IsTextOutcome, region_outcome}

-- a count that rose in the second of two calls rose over both
pub rose_over : (first second third : ℕ) → first ≤ second → Rose second third → Rose first third
rose_over first second third le (inl more) = inl (omega arith)
rose_over first second third le (inr last) = inr last

-- what a shelf tells it told before
pub told_before : (old mid : ShelfMeaning) → IsLater old mid → (name : List ℕ) (P : Option (List ℕ) → Type 0) → Told mid name P → Told old name P
told_before old mid later name P told = subst (λ (files : Option (List ℕ → Option (List ℕ))). IfSome files (λ f. P (f name))) later.files told

-- why a file was not read whole is told of an earlier state too
pub unreadable_before : (old mid new : ShelfMeaning) → IsLater old mid → (name : List ℕ) (file : FileRole) (outcome : Outcome)
    → IsUnreadable mid new name file outcome → IsUnreadable old new name file outcome
unreadable_before old mid new later name file (ReadFault other) (e, rose) = (e, rose_over old.faults mid.faults new.faults later.faults rose)
unreadable_before old mid new later name file (TooLong other) (e, told) = (e, told_before old mid later name (λ held. IsSomeAnd held (λ bytes. most_of file < length bytes)) told)
unreadable_before old mid new later name file OutOfMemory none = none
unreadable_before old mid new later name file Done none = none
unreadable_before old mid new later name file Usage none = none
unreadable_before old mid new later name file (Missing other) none = absurd none
unreadable_before old mid new later name file WriteFault none = none
unreadable_before old mid new later name file (BadRegion fault) none = none
unreadable_before old mid new later name file (BadFeed fault) none = none
unreadable_before old mid new later name file (Invalid clause at) none = none
unreadable_before old mid new later name file (BadCertificate line) none = none
unreadable_before old mid new later name file (BadHierarchy fault) none = none
unreadable_before old mid new later name file (Unsound clause at by) none = none

pub unread_before : (old mid new : ShelfMeaning) → IsLater old mid → (name : List ℕ) (file : FileRole) (outcome : Outcome)
    → IsUnread mid new name file outcome → IsUnread old new name file outcome
unread_before old mid new later name file (Missing other) (e, (rose, told)) =
    (e, (rose_over old.misses mid.misses new.misses later.misses rose, told_before old mid later name (λ held. held ≡ None) told))
unread_before old mid new later name file (ReadFault other) why = unreadable_before old mid new later name file (ReadFault other) why
unread_before old mid new later name file (TooLong other) why = unreadable_before old mid new later name file (TooLong other) why
unread_before old mid new later name file OutOfMemory none = none
unread_before old mid new later name file Done none = none
unread_before old mid new later name file Usage none = none
unread_before old mid new later name file WriteFault none = none
unread_before old mid new later name file (BadRegion fault) none = none
unread_before old mid new later name file (BadFeed fault) none = none
unread_before old mid new later name file (Invalid clause at) none = none
unread_before old mid new later name file (BadCertificate line) none = none
unread_before old mid new later name file (BadHierarchy fault) none = none
unread_before old mid new later name file (Unsound clause at by) none = none

-- one state after another
pub later_twice : (old mid new : ShelfMeaning) → IsLater old mid → IsLater mid new → IsLater old new
later_twice old mid new first second = record {
  files = second.files ∙ first.files;
  misses = (let one = first.misses in let two = second.misses in omega arith);
  faults = (let one = first.faults in let two = second.faults in omega arith);
}

-- ---- what is written

module _ (old new : ShelfMeaning) (before after : SinkMeaning) where
  -- the text was not written whole
  pub text_fails : (IsText : List ℕ → Type 0) (text : List ℕ) → IsText text → (outcome : Outcome) → IsTextOutcome before after text outcome
      → WritesText IsText (scene old before) (scene new after) outcome
  text_fails IsText text is WriteFault (rose, part) = (rose, record { out = take part.count text; is = (text, part.count, is, refl); appended = part.front })
  text_fails IsText text is OutOfMemory none = absurd none
  text_fails IsText text is Done none = absurd none
  text_fails IsText text is Usage none = none
  text_fails IsText text is (Missing file) none = none
  text_fails IsText text is (ReadFault file) none = none
  text_fails IsText text is (TooLong file) none = none
  text_fails IsText text is (BadRegion fault) none = none
  text_fails IsText text is (BadFeed fault) none = none
  text_fails IsText text is (Invalid clause at) none = none
  text_fails IsText text is (BadCertificate line) none = none
  text_fails IsText text is (BadHierarchy fault) none = none
  text_fails IsText text is (Unsound clause at by) none = none

  -- it was, or a front of it
  pub text_ends : (IsText : List ℕ → Type 0) (text : List ℕ) → IsText text → (result : Result ⊤ Outcome)
      → OnOk result (Appended before after text) → IfErr result (IsTextOutcome before after text) → WritesText IsText (scene old before) (scene new after) (end_of result)
  text_ends IsText text is (Ok done) appended none = record { out = text; is = is; appended = appended }
  text_ends IsText text is (Err outcome) none fails = text_fails IsText text is outcome fails

-- ---- what is read

pub not_earlier : (shelf : ShelfMeaning) → IsLater shelf shelf
not_earlier shelf = record { files = refl; misses = search rules; faults = search rules }

-- a region that was refused
pub region_refused : (caps : Caps) (old new : ShelfMeaning) (name bytes : List ℕ) → HasRead old name (most_of Region) bytes → (fault : RegionFault) → IsRefusedRegion caps bytes fault
    → IsRegionOutcome caps old new name (region_outcome fault)
region_refused caps old new name bytes file no.BadHead why = record { bytes = bytes; file = file; why = why }
region_refused caps old new name bytes file (no.BadRecord at) why = record { bytes = bytes; file = file; why = why }
region_refused caps old new name bytes file (no.Network broken) why = record { bytes = bytes; file = file; why = why }
region_refused caps old new name bytes file (no.Trailing at) why = record { bytes = bytes; file = file; why = why }
region_refused caps old new name bytes file no.OutOfMemory why = tt

module _ (old mid new : ShelfMeaning) (before after : SinkMeaning) (name : List ℕ) where
  -- the region was not read
  pub region_fails : (caps : Caps) (rest : NetworkLists → Saying) (outcome : Outcome) → IsRegionOutcome caps old new name outcome → Stays before after
      → OnRegion caps name rest (scene old before) (scene new after) outcome
  region_fails caps rest (BadRegion fault) bad same = inr (record {
    bytes = bad.bytes;
    file = bad.file;
    mid = old;
    later = not_earlier old;
    says = inl (fault, bad.why, (refl, same));
  })
  region_fails caps rest (BadFeed fault) unread same = inl (unread, same)
  region_fails caps rest Done unread same = inl (unread, same)
  region_fails caps rest Usage unread same = inl (unread, same)
  region_fails caps rest WriteFault unread same = inl (unread, same)
  region_fails caps rest OutOfMemory unread same = inl (unread, same)
  region_fails caps rest (Missing file) unread same = inl (unread, same)
  region_fails caps rest (ReadFault file) unread same = inl (unread, same)
  region_fails caps rest (TooLong file) unread same = inl (unread, same)
  region_fails caps rest (Invalid clause at) unread same = inl (unread, same)
  region_fails caps rest (BadCertificate line) unread same = inl (unread, same)
  region_fails caps rest (BadHierarchy fault) unread same = inl (unread, same)
  region_fails caps rest (Unsound clause at by) unread same = inl (unread, same)

  -- it was, and the rest says this
  pub on_region : (caps : Caps) (rest : NetworkLists → Saying) (n : NetworkLists) → HasRegion caps old name n → IsLater old mid
      → (outcome : Outcome) → rest n (scene mid before) (scene new after) outcome → OnRegion caps name rest (scene old before) (scene new after) outcome
  on_region caps rest n has later outcome says = inr (record {
    bytes = has.bytes;
    file = has.file;
    mid = mid;
    later = later;
    says = inr (n, has.spells, has.rules, says);
  })
