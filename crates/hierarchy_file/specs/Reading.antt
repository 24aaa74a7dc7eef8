-- Reading from left to right, up to the first record that may not stand where it does.
use Rattle.std.specs.Prelude.{◌≡◌, ℕ, zero, suc, ◌-◌, ◌^◌, ◌==◌, ◌&&◌, nat_lt, Bool, true, List, [], length, take, drop, Option, Some, None, option_and_then, Result, Ok, Err, if◌then◌else◌, bytes_eq}
use Rattle.std.specs.Int.{w32, w64}
use Rattle.std.specs.Ordering.{is_lt}
use Rattle.std.specs.declared.cmp.Ordering.{Ordering}
use Rattle.file_records.specs.{number_front, with_first}
use Rattle.hierarchy.specs.{Entry, HierarchyLists, WitnessLists}
use Rattle.hierarchy_file.specs.{declared.head.Counts.Counts, Spelling.magic, Spelling.pair_cmp, Spelling.three_cmp, Spelling.key_of_entry, Spelling.key_of_witness}
pub use Rattle.hierarchy_file.specs.{declared.fault.HFileFault.HFileFault, declared.fault.HFileFault.TheVariants.BadHead, declared.fault.HFileFault.TheVariants.BadRecord, declared.fault.HFileFault.TheVariants.Trailing, declared.fault.HFileFault.TheVariants.OutOfMemory}

infixl 10 ◌>>=◌
abbrev pub ◌>>=◌ : {A B : Type 0} → Option A → (A → Option B) → Option B
o >>= f = option_and_then f o

-- ---- one record: its value and the bytes behind it, or none where it is cut short or breaks its rule

unfoldable pub node_at : List ℕ → Option (ℕ × List ℕ)
node_at bytes = do
  node ← number_front w32 bytes
  if nat_lt node.0 (2 ^ 24) then Some (node.0, node.1) else None

unfoldable pub middle_of : ℕ → Option (Option ℕ)
middle_of number = if number == 0xffffffff then Some None else (if nat_lt number (2 ^ 24) then Some (Some number) else None)

-- a key may stand after the one before it, if any
abbrev pub is_after : {K : Type 0} → (K → K → Ordering) → Option K → K → Bool
is_after cmp None key = true
is_after cmp (Some before) key = is_lt (cmp before key)

unfoldable pub entry_front : Option (ℕ × ℕ) → List ℕ → Option (Entry × List ℕ)
entry_front before bytes = do
  from ← node_at bytes
  to ← node_at from.1
  weight ← number_front w64 to.1
  middle ← number_front w32 weight.1
  via ← middle_of middle.0
  if is_after pair_cmp before (from.0, to.0) then Some (record { from = from.0; to = to.0; weight = weight.0; via = via }, middle.1) else None

-- ---- records in a row

abbrev pub record_then : {X : Type 0} → (X → List ℕ → Result (List X × List ℕ) ℕ) → ℕ → Option (X × List ℕ) → Result (List X × List ℕ) ℕ
record_then others left None = Err left
record_then others left (Some x) = with_first x.0 (others x.0 x.1)

-- so many records, each read after the key of the one before it; or how many bytes are left at the first that may not stand there
unfoldable pub many_ascending : {X K : Type 0} → (Option K → List ℕ → Option (X × List ℕ)) → (X → K) → ℕ → Option K → List ℕ → Result (List X × List ℕ) ℕ
many_ascending read key zero before bytes = Ok ([], bytes)
many_ascending read key (suc n) before bytes = record_then (λ x rest. many_ascending read key n (Some (key x)) rest) (length bytes) (read before bytes)

abbrev pub next_node : Option ℕ → List ℕ → Option (ℕ × List ℕ)
next_node before bytes = node_at bytes

abbrev pub all_read : {X : Type 0} → Result (List X × List ℕ) ℕ → Option (List X × List ℕ)
all_read (Ok x) = Some x
all_read (Err left) = None

unfoldable pub witness_at : Option (ℕ × ℕ × ℕ) → List ℕ → Option (WitnessLists × List ℕ)
witness_at before bytes = do
  below ← node_at bytes
  count ← number_front w64 below.1
  nodes ← all_read (many_ascending next_node (λ (v : ℕ). v) count.0 None count.1)
  let w : WitnessLists = record { below = below.0; nodes = nodes.0 }
  if nat_lt 1 count.0 && is_after three_cmp before (key_of_witness w) then Some (w, nodes.1) else None

-- ---- the whole

unfoldable pub counts_at : List ℕ → Option (Counts × List ℕ)
counts_at bytes = do
  order ← number_front w64 bytes
  entries ← number_front w64 order.1
  witnesses ← number_front w64 entries.1
  Some (record { order = order.0; entries = entries.0; witnesses = witnesses.0 }, witnesses.1)

-- the bytes behind the magic, where they begin with it
unfoldable pub behind_magic : List ℕ → Option (List ℕ)
behind_magic bytes = if bytes_eq (take (length magic) bytes) magic then Some (drop (length magic) bytes) else None

unfoldable pub head_at : List ℕ → Option (Counts × List ℕ)
head_at bytes = do
  rest ← behind_magic bytes
  counts_at rest

abbrev pub with_witnesses : List ℕ → List Entry → Result (List WitnessLists × List ℕ) ℕ → Result (HierarchyLists × List ℕ) ℕ
with_witnesses order entries (Ok x) = Ok (record { order = order; entries = entries; witnesses = x.0 }, x.1)
with_witnesses order entries (Err left) = Err left

abbrev pub with_entries : Counts → List ℕ → Result (List Entry × List ℕ) ℕ → Result (HierarchyLists × List ℕ) ℕ
with_entries counts order (Ok x) = with_witnesses order x.0 (many_ascending witness_at key_of_witness counts.witnesses None x.1)
with_entries counts order (Err left) = Err left

abbrev pub with_order : Counts → Result (List ℕ × List ℕ) ℕ → Result (HierarchyLists × List ℕ) ℕ
with_order counts (Ok x) = with_entries counts x.0 (many_ascending entry_front key_of_entry counts.entries None x.1)
with_order counts (Err left) = Err left

-- the order, the entries and the witnesses, and the bytes behind them
unfoldable pub hierarchy_records : Counts → List ℕ → Result (HierarchyLists × List ℕ) ℕ
hierarchy_records counts bytes = with_order counts (many_ascending next_node (λ (v : ℕ). v) counts.order None bytes)

-- in so many bytes, what was read up to the end of the records
abbrev pub whole_hierarchy : ℕ → Result (HierarchyLists × List ℕ) ℕ → Result HierarchyLists HFileFault
whole_hierarchy len (Ok x) = if length x.1 == 0 then Ok x.0 else Err (Trailing (len - length x.1))
whole_hierarchy len (Err left) = Err (BadRecord (len - left))

abbrev pub of_head : ℕ → Option (Counts × List ℕ) → Result HierarchyLists HFileFault
of_head len None = Err BadHead
of_head len (Some head) = whole_hierarchy len (hierarchy_records head.0 head.1)

-- what the bytes spell: a hierarchy, or the first fault
unfoldable pub hierarchy_of : List ℕ → Result HierarchyLists HFileFault
hierarchy_of bytes = of_head (length bytes) (head_at bytes)

-- ---- what a function returned is what reading gives, unless memory ran out

abbrev pub GivesHierarchy : Result HierarchyLists HFileFault → Result HierarchyLists HFileFault → Type 0
GivesHierarchy (Ok h) read = read ≡ Ok h
GivesHierarchy (Err OutOfMemory) read = Unit {0}
GivesHierarchy (Err BadHead) read = read ≡ Err BadHead
GivesHierarchy (Err (BadRecord at)) read = read ≡ Err (BadRecord at)
GivesHierarchy (Err (Trailing at)) read = read ≡ Err (Trailing at)
