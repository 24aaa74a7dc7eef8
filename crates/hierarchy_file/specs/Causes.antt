-- Why bytes are refused, said without any reading.
use Rattle.std.specs.Prelude.{◌≡◌, ℕ, ◌-◌, ◌<◌, ◌⊎◌, List, [], ◌∷◌, ◌++◌, length, true, Option, Some, None, flat_map}
use Rattle.std.specs.List.{AllByRecursion}
use Rattle.hierarchy.specs.{HierarchyLists, IsNode}
use Rattle.hierarchy_file.specs.{declared.fault.HFileFault.HFileFault, declared.fault.HFileFault.TheVariants.BadHead, declared.fault.HFileFault.TheVariants.BadRecord, declared.fault.HFileFault.TheVariants.Trailing, declared.fault.HFileFault.TheVariants.OutOfMemory, declared.head.Counts.Counts, Spelling.magic, Spelling.counts_text, Spelling.node_in_bytes, Spelling.entry_text, Spelling.witness_text, Spelling.hierarchy_text, Spelling.HasSpelling, Spelling.FitEightBytes, Spelling.FitsRow, Spelling.FitsWalk, Spelling.key_of_entry, Spelling.key_of_witness, Spelling.pair_cmp, Spelling.three_cmp, Reading.is_after}

-- each row may follow the key of the one before it
abbrev pub Follow : {X K : Type 0} → (Option K → K → Type 0) → (X → K) → Option K → List X → Type 0
Follow Next key before [] = Unit {0}
Follow Next key before (x ∷ xs) = Next before (key x) × Follow Next key (Some (key x)) xs

-- the key of the last row, or of the one before the first
abbrev pub last_key : {X K : Type 0} → (X → K) → Option K → List X → Option K
last_key key before [] = before
last_key key before (x ∷ xs) = last_key key (Some (key x)) xs

-- so many rows are spelled in turn, and the rest follows
pub record AreRows {X K : Type 0} (text : X → List ℕ) (Fits : X → Type 0) (Next : Option K → K → Type 0) (key : X → K) (count : ℕ) (bytes rest : List ℕ) : Type 0 where
  pub rows : List X
  pub fit : AllByRecursion Fits rows
  pub follow : Follow Next key None rows
  pub counted : length rows ≡ count
  pub are : bytes ≡ flat_map text rows ++ rest

-- fewer rows are spelled in turn, and where the rest begins no row is spelled that may follow them
pub record StopsAt {X K : Type 0} (text : X → List ℕ) (Fits : X → Type 0) (Next : Option K → K → Type 0) (key : X → K) (before : Option K) (count : ℕ) (bytes : List ℕ) (left : ℕ) : Type 0 where
  pub rows : List X
  pub rest : List ℕ
  pub fewer : length rows < count
  pub fit : AllByRecursion Fits rows
  pub follow : Follow Next key before rows
  pub are : bytes ≡ flat_map text rows ++ rest
  pub left_is : left ≡ length rest
  pub none : (x : X) (more : List ℕ) → Fits x → Next (last_key key before rows) (key x) → rest ≡ text x ++ more → ⊥

abbrev pub AnyNext : Option ℕ → ℕ → Type 0
AnyNext before v = Unit {0}

abbrev pub itself : ℕ → ℕ
itself v = v

abbrev pub NextPair : Option (ℕ × ℕ) → ℕ × ℕ → Type 0
NextPair before key = is_after pair_cmp before key ≡ true

abbrev pub NextThree : Option (ℕ × ℕ × ℕ) → ℕ × ℕ × ℕ → Type 0
NextThree before key = is_after three_cmp before key ≡ true

-- among these records the first that may not stand begins where so many bytes are left: it is one of the order, or of the
-- entries behind the whole order, or of the witnesses behind both
abbrev pub RecordsStop : Counts → List ℕ → ℕ → Type 0
RecordsStop c bytes left =
    StopsAt node_in_bytes IsNode AnyNext itself None c.order bytes left
    ⊎ ((rest : List ℕ) × AreRows node_in_bytes IsNode AnyNext itself c.order bytes rest
    × (StopsAt entry_text FitsRow NextPair key_of_entry None c.entries rest left
    ⊎ ((more : List ℕ) × AreRows entry_text FitsRow NextPair key_of_entry c.entries rest more
    × StopsAt witness_text FitsWalk NextThree key_of_witness None c.witnesses more left)))

-- the bytes begin with a head that tells these counts
pub record HasHead (bytes : List ℕ) (c : Counts) (rest : List ℕ) : Type 0 where
  pub fit : FitEightBytes c
  pub are : bytes ≡ (magic ++ counts_text c) ++ rest

pub record BadRecordAt (bytes : List ℕ) (at : ℕ) : Type 0 where
  pub counts : Counts
  pub rest : List ℕ
  pub left : ℕ
  pub head : HasHead bytes counts rest
  pub stop : RecordsStop counts rest left
  pub place : at ≡ length bytes - left

pub record TrailingAt (bytes : List ℕ) (at : ℕ) : Type 0 where
  pub hierarchy : HierarchyLists
  pub rest : List ℕ
  pub has : HasSpelling hierarchy
  pub are : bytes ≡ hierarchy_text hierarchy ++ rest
  pub some : 0 < length rest
  pub place : at ≡ length bytes - length rest

-- That memory ran out has no cause.
abbrev pub HasCause : List ℕ → HFileFault → Type 0
HasCause bytes BadHead = (c : Counts) (rest : List ℕ) → HasHead bytes c rest → ⊥
HasCause bytes (BadRecord at) = BadRecordAt bytes at
HasCause bytes (Trailing at) = TrailingAt bytes at
HasCause bytes OutOfMemory = Unit {0}

-- the bytes are the one spelling of this hierarchy
abbrev pub SpellHierarchy : List ℕ → HierarchyLists → Type 0
SpellHierarchy bytes h = HasSpelling h × (bytes ≡ hierarchy_text h)

abbrev pub SpellNone : List ℕ → Type 0
SpellNone bytes = (h : HierarchyLists) → SpellHierarchy bytes h → ⊥

-- the bytes spell no hierarchy, and this is why; want of memory never is
abbrev pub IsNoHierarchy : List ℕ → HFileFault → Type 0
IsNoHierarchy bytes OutOfMemory = ⊥
IsNoHierarchy bytes BadHead = SpellNone bytes × HasCause bytes BadHead
IsNoHierarchy bytes (BadRecord at) = SpellNone bytes × HasCause bytes (BadRecord at)
IsNoHierarchy bytes (Trailing at) = SpellNone bytes × HasCause bytes (Trailing at)

-- what a refusal says of the bytes; want of memory says nothing
abbrev pub IsRefusedHierarchy : List ℕ → HFileFault → Type 0
IsRefusedHierarchy bytes OutOfMemory = Unit {0}
IsRefusedHierarchy bytes BadHead = IsNoHierarchy bytes BadHead
IsRefusedHierarchy bytes (BadRecord at) = IsNoHierarchy bytes (BadRecord at)
IsRefusedHierarchy bytes (Trailing at) = IsNoHierarchy bytes (Trailing at)
