-- Values or faults, and the first of several faults.
use Rattle.std.specs.Prelude.{◌≡◌, Option, None, Some, Result, Ok, Err}
pub use Rattle.gtfs_tables.specs.{declared.faults.FeedFault.FeedFault, declared.faults.FeedFault.TheVariants.MissingFile, declared.faults.FeedFault.TheVariants.MissingColumn, declared.faults.FeedFault.TheVariants.BadField, declared.faults.FeedFault.TheVariants.RepeatedKey, declared.faults.FeedFault.TheVariants.DanglingKey, declared.faults.FeedFault.TheVariants.MixedZones, declared.faults.FeedFault.TheVariants.TooMany, declared.faults.FeedFault.TheVariants.OutOfMemory}

-- the next step takes the value, where there is no fault
infixl 10 ◌>>=◌
abbrev pub ◌>>=◌ : {A B E : Type 0} → Result A E → (A → Result B E) → Result B E
Ok a >>= f = f a
Err e >>= f = Err e

-- the value, where there is no fault
abbrev pub faultless : {A E : Type 0} → Option E → A → Result A E
faultless None a = Ok a
faultless (Some fault) a = Err fault

-- memory ran out, or this holds
abbrev pub IsWantOr : FeedFault → Type 0 → Type 0
IsWantOr OutOfMemory P = Unit {0}
IsWantOr (MissingFile file) P = P
IsWantOr (MissingColumn file column) P = P
IsWantOr (BadField file row column) P = P
IsWantOr (RepeatedKey file row) P = P
IsWantOr (DanglingKey file row column) P = P
IsWantOr (MixedZones row) P = P
IsWantOr (TooMany kind) P = P

-- the answer is the fault of this result; want of memory is no matter of the files
abbrev pub IsFaultOf : {A : Type 0} → Result A FeedFault → FeedFault → Type 0
IsFaultOf r fault = IsWantOr fault (r ≡ Err fault)
