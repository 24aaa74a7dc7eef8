-- A file that has a hierarchy alone, or one and behind it a hierarchy of its core.
use Rattle.std.specs.Prelude.{◌≡◌, ℕ, ◌+◌, ◌<◌, ◌^◌, ◌⊎◌, List, ◌++◌, length, codes, Option, Some, None}
use Rattle.std.specs.Int.{w64, to_be_bytes}
use Rattle.hierarchy.specs.{HierarchyLists}
use Rattle.hierarchy_file.specs.{HFileFault, BadHead, BadRecord, Trailing, OutOfMemory, SpellHierarchy, IsNoHierarchy}
pub use Rattle.core_file.specs.{declared.files.FileLists.FileLists, declared.files.FileFormat.FileFormat, declared.files.FileFormat.TheVariants.Alone, declared.files.FileFormat.TheVariants.WithCore}

abbrev pub core_magic : List ℕ
core_magic = codes "MPHIER02"

-- the bytes are the magic of such a file, how many bytes its first part has, this part, and the rest
pub record HasParts (bytes first rest : List ℕ) : Type 0 where
  pub short : length first < 2 ^ 64
  pub are : bytes ≡ core_magic ++ to_be_bytes w64 (length first) ++ first ++ rest

-- the first part is the one spelling of a hierarchy, and the rest that of one of its core
pub record SpellBoth (bytes : List ℕ) (h k : HierarchyLists) : Type 0 where
  pub first : List ℕ
  pub rest : List ℕ
  pub parts : HasParts bytes first rest
  pub hierarchy : SpellHierarchy first h
  pub core : SpellHierarchy rest k

-- the bytes are the one spelling of a hierarchy, with that of one of its core or without
abbrev pub SpellFile : List ℕ → HierarchyLists → Option HierarchyLists → Type 0
SpellFile bytes h None = SpellHierarchy bytes h
SpellFile bytes h (Some core) = SpellBoth bytes h core

-- ---- why bytes are refused

-- how many bytes stand before the first part
abbrev pub core_head : ℕ
core_head = 16

-- a fault of a part, which begins behind so many bytes; that it does not begin as a hierarchy does is a fault of its first record
abbrev pub behind : ℕ → HFileFault → HFileFault
behind before BadHead = BadRecord before
behind before (BadRecord at) = BadRecord (before + at)
behind before (Trailing at) = Trailing (before + at)
behind before OutOfMemory = OutOfMemory

-- the first part spells no hierarchy
pub record FirstIsNone (bytes : List ℕ) (fault : HFileFault) : Type 0 where
  pub first : List ℕ
  pub rest : List ℕ
  pub parts : HasParts bytes first rest
  pub cause : HFileFault
  pub none : IsNoHierarchy first cause
  pub is : fault ≡ behind core_head cause

-- the first part spells one, and the rest none
pub record CoreIsNone (bytes : List ℕ) (fault : HFileFault) : Type 0 where
  pub first : List ℕ
  pub rest : List ℕ
  pub parts : HasParts bytes first rest
  pub hierarchy : HierarchyLists
  pub spelled : SpellHierarchy first hierarchy
  pub cause : HFileFault
  pub none : IsNoHierarchy rest cause
  pub is : fault ≡ behind (core_head + length first) cause

abbrev pub HasNoParts : List ℕ → Type 0
HasNoParts bytes = (first rest : List ℕ) → HasParts bytes first rest → ⊥

-- they have no parts and spell no hierarchy, or one of their parts spells none
abbrev pub IsNoFile : List ℕ → HFileFault → Type 0
IsNoFile bytes fault = (HasNoParts bytes × IsNoHierarchy bytes fault) ⊎ FirstIsNone bytes fault ⊎ CoreIsNone bytes fault

-- what a refusal says of the bytes; want of memory says nothing
abbrev pub IsRefusedFile : List ℕ → HFileFault → Type 0
IsRefusedFile bytes OutOfMemory = Unit {0}
IsRefusedFile bytes BadHead = IsNoFile bytes BadHead
IsRefusedFile bytes (BadRecord at) = IsNoFile bytes (BadRecord at)
IsRefusedFile bytes (Trailing at) = IsNoFile bytes (Trailing at)
