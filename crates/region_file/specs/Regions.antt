-- What the lines of a region text make, what the bytes of a region spell in either format, and what is wrong with bytes that are
-- no region.
use Rattle.std.specs.Prelude.{◌≡◌, ◌≢◌, ℕ, ◌+◌, ◌<◌, ◌⊎◌, List, [], ◌∷◌, ◌++◌, length, take, drop, Option, Some, None, Result, Ok, Err, fold, if◌then◌else◌, bytes_eq, flat_map}
use Rattle.plain_texts.specs.{pieces, whole, bad, trailing, lines_from, run_on, IsFirstBad, IsTrailing, Course.Course}
use Rattle.std.specs.List.{AllByRecursion}
use Rattle.plan_base.specs.{Caps}
use Rattle.mode_network.specs.{Road, Stop, Switch, NetFault, first_fault, NetworkLists.NetworkLists}
use Rattle.timetable_arcs.specs.{Call, TripLists}
use Rattle.service_days.specs.DaysMeaning.{DaysMeaning}
use Rattle.region_file.specs.{Bytes.FitCounts, Bytes.counts_of, Bytes.head_bytes, Bytes.record_bytes, Bytes.region_bytes, Due.Due, Due.due_of, Due.record_after, Records.lists_in, declared.counts.Counts.Counts, declared.fault.RegionFault.RegionFault, declared.fault.RegionFault.TheVariants.BadHead, declared.fault.RegionFault.TheVariants.BadRecord, declared.fault.RegionFault.TheVariants.Trailing, declared.lines.Line.Line, Lines.FitsDays, Lines.FitsLine, Lines.IsRegion, Lines.head_line, Lines.region_text, Lines.spelled, Sections.is_end, Sections.line_at, Sections.progress_after, Sections.start}
pub use Rattle.region_file.specs.{declared.fault.RegionFault.TheVariants.Network, declared.fault.RegionFault.TheVariants.OutOfMemory, declared.format.Format.Format, declared.format.Format.TheVariants.Text, declared.format.Format.TheVariants.Binary}
use Rattle.region_file.specs.declared.lines.Line.TheVariants as line

-- no line yet
abbrev pub nothing : NetworkLists
nothing = record {
  days = record { first = 0; count = 0; bases = []; dates = []; zone = None };
  roads = [];
  stop_names = [];
  stops = [];
  switches = [];
  arcs = [];
  links = [];
  trips = [];
}

-- the trips with one call more of the last
abbrev pub with_last_call : List TripLists → Call → List TripLists
with_last_call [] call = []
with_last_call (trip ∷ []) call = record trip { calls = trip.calls ++ call ∷ [] } ∷ []
with_last_call (trip ∷ next ∷ more) call = trip ∷ with_last_call (next ∷ more) call

-- the lists with one line more
abbrev pub put : NetworkLists → Line → NetworkLists
put n (line.Days days) = record n { days = days }
put n (line.Road mode id place) = record n { roads = n.roads ++ record { key = Road mode id; place = place } ∷ [] }
put n (line.Stop name place) = record n { stop_names = n.stop_names ++ name ∷ []; stops = n.stops ++ record { key = Stop (length n.stops); place = place } ∷ [] }
put n (line.Switch id place) = record n { switches = n.switches ++ record { key = Switch id; place = place } ∷ [] }
put n (line.Arc arc) = record n { arcs = n.arcs ++ arc ∷ [] }
put n (line.Link arc) = record n { links = n.links ++ arc ∷ [] }
put n (line.Trip letter days calls name) = record n { trips = n.trips ++ record { letter = letter; days = days; name = name; calls = [] } ∷ [] }
put n (line.Call call) = record n { trips = with_last_call n.trips call }
put n line.End = n

-- the lists with all lines of a course, or its fault
abbrev pub put_all : NetworkLists → Course Line → Result NetworkLists RegionFault
put_all n (whole lines) = Ok (fold put n lines)
put_all n (bad at) = Err (BadRecord at)
put_all n (trailing at) = Err (Trailing at)

-- the lists that the text behind the head line spells
unfoldable pub lists_in_text : List ℕ → Result NetworkLists RegionFault
lists_in_text text = put_all nothing (lines_from line_at is_end start 2 (pieces text))

-- the network of some lists, or the first rule that they break
abbrev pub or_fault : NetworkLists → Option NetFault → Result NetworkLists RegionFault
or_fault n None = Ok n
or_fault n (Some fault) = Err (Network fault)

abbrev pub network_of : Caps → Result NetworkLists RegionFault → Result NetworkLists RegionFault
network_of caps (Ok n) = or_fault n (first_fault caps n)
network_of caps (Err fault) = Err fault

-- the text behind the head line, where the bytes begin with it
unfoldable pub behind_head : List ℕ → Option (List ℕ)
behind_head bytes = if bytes_eq (take (length head_line) bytes) head_line then Some (drop (length head_line) bytes) else None

-- the lists that bytes spell: as text where they begin with its head line, and else as records
abbrev pub lists_by : List ℕ → Option (List ℕ) → Result NetworkLists RegionFault
lists_by bytes (Some text) = lists_in_text text
lists_by bytes None = lists_in bytes

-- what the bytes of a region spell: a network, or the first fault
unfoldable pub region_of : Caps → List ℕ → Result NetworkLists RegionFault
region_of caps bytes = network_of caps (lists_by bytes (behind_head bytes))

-- What a function returned is what is defined, unless memory ran out.
abbrev pub Gives : Result NetworkLists RegionFault → Result NetworkLists RegionFault → Type 0
Gives (Ok n) defined = defined ≡ Ok n
Gives (Err OutOfMemory) defined = Unit {0}
Gives (Err BadHead) defined = defined ≡ Err BadHead
Gives (Err (BadRecord at)) defined = defined ≡ Err (BadRecord at)
Gives (Err (Network fault)) defined = defined ≡ Err (Network fault)
Gives (Err (Trailing at)) defined = defined ≡ Err (Trailing at)

-- the one spelling of a network in a format
abbrev pub spelling : Format → NetworkLists → List ℕ
spelling Text n = region_text n
spelling Binary n = region_bytes n

-- The bytes are the spelling of this network as records, whose counts fit their fields.
pub record IsInBytes (bytes : List ℕ) (n : NetworkLists) : Type 0 where
  pub counts : FitCounts (counts_of n)
  pub spelled : bytes ≡ region_bytes n

-- the bytes are one of the two spellings of this network: as text, or as records
abbrev pub AreSpelling : List ℕ → NetworkLists → Type 0
AreSpelling bytes n = (bytes ≡ region_text n) ⊎ IsInBytes bytes n

-- The bytes are a spelling of this network, which keeps every rule.
pub record IsDecoded (caps : Caps) (bytes : List ℕ) (n : NetworkLists) : Type 0 where
  pub region : IsRegion n
  pub spelled : AreSpelling bytes n
  pub faultless : first_fault caps n ≡ None

-- a text behind the head line
pub record HasHeadLine (bytes text : List ℕ) : Type 0 where
  pub is : bytes ≡ head_line ++ text

-- Bytes begin with the head of these days and counts.
pub record BeginsWith (bytes : List ℕ) (days : DaysMeaning) (counts : Counts) (rest : List ℕ) : Type 0 where
  pub days_fit : FitsDays days
  pub counts_fit : FitCounts counts
  pub are : bytes ≡ head_bytes days counts ++ rest

-- Some line of a text is the first that may not stand where it does.
abbrev pub IsBadLine : List ℕ → ℕ → Type 0
IsBadLine bytes at = (text : List ℕ) × HasHeadLine bytes text × IsFirstBad spelled FitsLine progress_after is_end start 2 (pieces text) at

-- Behind some records that may stand where they do, more are due, and no record that may come next stands in the bytes at this
-- place.
pub record IsBadRecord (bytes : List ℕ) (at : ℕ) : Type 0 where
  pub days : DaysMeaning
  pub counts : Counts
  pub records : List Line
  pub due : Due
  pub rest : List ℕ
  pub begins : BeginsWith bytes days counts (flat_map record_bytes records ++ rest)
  pub fit : AllByRecursion FitsLine records
  pub run : run_on record_after (Some (due_of counts)) records ≡ Some due
  pub some : 0 < due.calls + length due.sections
  pub none : (l : Line) (more : List ℕ) → FitsLine l → record_after due l ≢ None → rest ≡ record_bytes l ++ more → ⊥
  pub place : at + length rest ≡ length bytes

-- Bytes follow the end of a text, and this is the line where they begin.
abbrev pub IsTrailingLine : List ℕ → ℕ → Type 0
IsTrailingLine bytes at = (text : List ℕ) × HasHeadLine bytes text × IsTrailing spelled FitsLine progress_after is_end start 2 (pieces text) at

-- Bytes follow all records, and begin at this place.
pub record FollowRecords (bytes : List ℕ) (at : ℕ) : Type 0 where
  pub network : NetworkLists
  pub rest : List ℕ
  pub region : IsRegion network
  pub counts : FitCounts (counts_of network)
  pub are : bytes ≡ region_bytes network ++ rest
  pub some : 0 < length rest
  pub place : at + length rest ≡ length bytes

-- Why bytes are refused: they have no head of either format; some line or record is the first that may not stand where it does;
-- bytes follow the end; or they spell a network that breaks a rule, the first of which is named. That memory ran out has no
-- cause.
abbrev pub HasCause : Caps → List ℕ → RegionFault → Type 0
HasCause caps bytes BadHead = ((text : List ℕ) → HasHeadLine bytes text → ⊥) × ((days : DaysMeaning) (counts : Counts) (rest : List ℕ) → BeginsWith bytes days counts rest → ⊥)
HasCause caps bytes (BadRecord at) = IsBadLine bytes at ⊎ IsBadRecord bytes at
HasCause caps bytes (Trailing at) = IsTrailingLine bytes at ⊎ FollowRecords bytes at
HasCause caps bytes (Network fault) = (n : NetworkLists) × IsRegion n × AreSpelling bytes n × (first_fault caps n ≡ Some fault)
HasCause caps bytes OutOfMemory = Unit {0}

-- no network within the limits is spelled by the bytes
abbrev pub SpellNone : Caps → List ℕ → Type 0
SpellNone caps bytes = (n : NetworkLists) → IsDecoded caps bytes n → ⊥

-- the bytes are no region, and this is why; want of memory never is
abbrev pub IsNoRegion : Caps → List ℕ → RegionFault → Type 0
IsNoRegion caps bytes OutOfMemory = ⊥
IsNoRegion caps bytes BadHead = SpellNone caps bytes × HasCause caps bytes BadHead
IsNoRegion caps bytes (BadRecord at) = SpellNone caps bytes × HasCause caps bytes (BadRecord at)
IsNoRegion caps bytes (Network fault) = SpellNone caps bytes × HasCause caps bytes (Network fault)
IsNoRegion caps bytes (Trailing at) = SpellNone caps bytes × HasCause caps bytes (Trailing at)

-- what a refusal says of the bytes; want of memory says nothing
abbrev pub IsRefusedRegion : Caps → List ℕ → RegionFault → Type 0
IsRefusedRegion caps bytes OutOfMemory = Unit {0}
IsRefusedRegion caps bytes BadHead = IsNoRegion caps bytes BadHead
IsRefusedRegion caps bytes (BadRecord at) = IsNoRegion caps bytes (BadRecord at)
IsRefusedRegion caps bytes (Network fault) = IsNoRegion caps bytes (Network fault)
IsRefusedRegion caps bytes (Trailing at) = IsNoRegion caps bytes (Trailing at)
