-- A run whose files are there and without fault ends with its work done, step by step.
use Rattle.plan_base.proofs.Common.{◌≡◌, ℕ, ◌<◌, ◌∙◌, inl, inr, List, Option, Some, None, subst, arith, ⊤, length, IfSome, IsSomeAnd}
use Rattle.plan_base.specs.{Rose, IsLater, ShelfMeaning, Told, Caps}
use Rattle.mode_network.specs.{NetworkLists.NetworkLists, IsNetwork}
use Rattle.region_file.specs.{RegionFault, IsDecoded, IsNoRegion}
use Rattle.region_file.specs.declared.fault.RegionFault.TheVariants as no
use Rattle.run_steps.specs.{FileRole, Outcome, Done, Usage, Missing, ReadFault, TooLong, WriteFault, BadRegion, BadFeed, Invalid, BadCertificate, BadHierarchy, Unsound, OutOfMemory, with_shelf, Saying, IsUnread, OnFile, Writes, most_of, OnNetwork, Files, IsHeld, IsQuiet, SpellsNetwork, IsDoneOrMemory, Completes, Scene.Scene}
use Rattle.run_steps.proofs.Steps.{rose_over}

-- a run is quiet behind a read if it is so as a whole
pub quiet_later : (old new : Scene ⊤) (mid : ShelfMeaning) → IsLater old.shelf mid → IsQuiet old new → IsQuiet (with_shelf old mid) new
quiet_later old new mid later quiet = record { shelf = λ rose. quiet.shelf (rose_over old.shelf.faults mid.faults new.shelf.faults later.faults rose); out = quiet.out }

-- what a shelf tells that holds these bytes
pub told_held : (shelf : ShelfMeaning) (files : Files) (name bytes : List ℕ) → shelf.files ≡ Some files → files name ≡ Some bytes
    → (P : Option (List ℕ) → Type 0) → Told shelf name P → P (Some bytes)
told_held shelf files name bytes tells held P told = subst P held (subst (λ (f : Option Files). IfSome f (λ g. P (g name))) tells told)

no_region : (caps : Caps) (bytes : List ℕ) (n : NetworkLists) (fault : RegionFault) → IsDecoded caps bytes n → IsNoRegion caps bytes fault → ⊥
no_region caps bytes n no.BadHead is none = none.0 n is
no_region caps bytes n (no.BadRecord at) is none = none.0 n is
no_region caps bytes n (no.Network broken) is none = none.0 n is
no_region caps bytes n (no.Trailing at) is none = none.0 n is
no_region caps bytes n no.OutOfMemory is none = none

module _ (files : Files) where
  -- a file that is held is read
  pub unread : (old new : ShelfMeaning) (file : FileRole) (name : List ℕ) (P : List ℕ → Type 0) (held : IsHeld file files name P) → old.files ≡ Some files
      → (Rose old.faults new.faults → ⊥) → (outcome : Outcome) → IsUnread old new name file outcome → IsDoneOrMemory outcome
  unread old new file name P held tells quiet (Missing other) (e, (rose, told)) =
      let none = told_held old files name held.bytes tells held.held (λ h. h ≡ None) told in
      absurd (cc)
  unread old new file name P held tells quiet (ReadFault other) (e, rose) = absurd (quiet rose)
  unread old new file name P held tells quiet (TooLong other) (e, told) =
      let long = told_held old files name held.bytes tells held.held (λ h. IsSomeAnd h (λ bytes. most_of file < length bytes)) told in
      let within = held.within in
      absurd (omega arith)
  unread old new file name P held tells quiet OutOfMemory none = none
  unread old new file name P held tells quiet Done none = absurd none
  unread old new file name P held tells quiet Usage none = none
  unread old new file name P held tells quiet WriteFault none = none
  unread old new file name P held tells quiet (BadRegion fault) none = none
  unread old new file name P held tells quiet (BadFeed fault) none = none
  unread old new file name P held tells quiet (Invalid clause at) none = none
  unread old new file name P held tells quiet (BadCertificate line) none = none
  unread old new file name P held tells quiet (BadHierarchy fault) none = none
  unread old new file name P held tells quiet (Unsound clause at by) none = none

  pub file_completes : (file : FileRole) (name : List ℕ) (P : List ℕ → Type 0) (rest : List ℕ → Saying) → ((bytes : List ℕ) → Completes files (P bytes) (rest bytes))
      → Completes files (IsHeld file files name P) (OnFile file name rest)
  file_completes file name P rest more held old new outcome tells quiet (inl (not, same)) = unread old.shelf new.shelf file name P held tells quiet.shelf outcome not
  file_completes file name P rest more held old new outcome tells quiet (inr on) =
      let file_is = told_held old.shelf files name held.bytes tells held.held (λ h. h ≡ Some on.bytes) on.file.file in
      let bytes : held.bytes ≡ on.bytes = cc in
      more on.bytes (subst P bytes held.fine) (with_shelf old on.mid) new outcome (on.later.files ∙ tells) (quiet_later old new on.mid on.later quiet) on.says

  pub network_completes : (caps : Caps) (P : NetworkLists → Type 0) (rest : NetworkLists → Saying) → ((n : NetworkLists) → IsNetwork n → Completes files (P n) (rest n))
      → (bytes : List ℕ) → Completes files (SpellsNetwork caps P bytes) (OnNetwork caps rest bytes)
  network_completes caps P rest more bytes (n, spells, p) old new outcome tells quiet (inl (fault, none, ends)) = absurd (no_region caps bytes n fault spells none)
  network_completes caps P rest more bytes (n, spells, p) old new outcome tells quiet (inr (m, decoded, rules, says)) =
      more m rules (subst P (decoded.only n spells) p) old new outcome tells quiet says

  pub writes_completes : (IsOut IsFront : List ℕ → Type 0) → Completes files (Unit {0}) (Writes IsOut IsFront)
  writes_completes IsOut IsFront p old new Done tells quiet is = tt
  writes_completes IsOut IsFront p old new OutOfMemory tells quiet is = tt
  writes_completes IsOut IsFront p old new WriteFault tells quiet (rose, front) = absurd (quiet.out rose)
  writes_completes IsOut IsFront p old new Usage tells quiet none = none
  writes_completes IsOut IsFront p old new (Missing file) tells quiet none = none
  writes_completes IsOut IsFront p old new (ReadFault file) tells quiet none = none
  writes_completes IsOut IsFront p old new (TooLong file) tells quiet none = none
  writes_completes IsOut IsFront p old new (BadRegion fault) tells quiet none = none
  writes_completes IsOut IsFront p old new (BadFeed fault) tells quiet none = none
  writes_completes IsOut IsFront p old new (Invalid clause at) tells quiet none = none
  writes_completes IsOut IsFront p old new (BadCertificate line) tells quiet none = none
  writes_completes IsOut IsFront p old new (BadHierarchy fault) tells quiet none = none
  writes_completes IsOut IsFront p old new (Unsound clause at by) tells quiet none = none
