-- Where a line may stand: one line of days first, then the sections in their order, and behind each trip its calls.
use Rattle.std.specs.Prelude.{ℕ, ◌-◌, List, Bool, Option, Some, None, option_and_then, nat_lt, nat_le, nat_eq, ◌&&◌, if◌then◌else◌}
use Rattle.region_file.specs.{declared.lines.Line.Line, Kinds.line_of}
use Rattle.region_file.specs.declared.lines.Line.TheVariants as line
pub use Rattle.region_file.specs.{declared.section.Progress.Progress, declared.section.Section.Section}
use Rattle.region_file.specs.declared.section.Section.TheVariants as section

abbrev pub rank : Section → ℕ
rank section.Start = 0
rank section.Days = 1
rank section.Nodes = 2
rank section.Stops = 3
rank section.Switches = 4
rank section.Arcs = 5
rank section.Links = 6
rank section.Trips = 7
rank section.End = 8

abbrev pub section_of : Line → Section
section_of (line.Days days) = section.Days
section_of (line.Road mode id place) = section.Nodes
section_of (line.Stop name place) = section.Stops
section_of (line.Switch id place) = section.Switches
section_of (line.Arc arc) = section.Arcs
section_of (line.Link arc) = section.Links
section_of (line.Trip letter days calls name) = section.Trips
section_of (line.Call call) = section.Trips
section_of line.End = section.End

-- whether a line of the section `next` may stand behind one of the section `before`
abbrev pub may_follow : Section → Section → Bool
may_follow before next =
    if nat_eq (rank before) (rank section.Start) then nat_eq (rank next) (rank section.Days)
    else nat_lt (rank section.Days) (rank next) && nat_le (rank before) (rank next) && nat_lt (rank before) (rank section.End)

-- a call is due behind a trip or a call, and any other line where no call is
abbrev pub is_due : ℕ → Line → Bool
is_due calls (line.Call call) = nat_lt 0 calls
is_due calls _ = nat_eq calls 0

-- how many calls are due behind a line, where so many were due before it
abbrev pub calls_due_behind : ℕ → Line → ℕ
calls_due_behind calls (line.Trip letter days count name) = count
calls_due_behind calls (line.Call call) = calls - 1
calls_due_behind calls _ = 0

abbrev pub may_stand : Progress → Line → Bool
may_stand before l = may_follow before.section (section_of l) && is_due before.calls_due l

abbrev pub behind : Progress → Line → Progress
behind before l = record { section = section_of l; calls_due = calls_due_behind before.calls_due l }

-- the place behind a line, if the line may stand there
abbrev pub progress_after : Progress → Line → Option Progress
progress_after before l = if may_stand before l then Some (behind before l) else None

-- nothing stands before the first line
abbrev pub start : Progress
start = record { section = section.Start; calls_due = 0 }

abbrev pub behind_days : Progress
behind_days = record { section = section.Days; calls_due = 0 }

-- nothing stands behind the end
abbrev pub is_end : Progress → Bool
is_end before = nat_eq (rank before.section) (rank section.End)

abbrev pub placed_line : Progress → Line → Option (Line × Progress)
placed_line before l = if may_stand before l then Some (l, behind before l) else None

-- the line that a text spells, if it may stand here, and the place behind it
unfoldable pub line_at : Progress → List ℕ → Option (Line × Progress)
line_at before text = option_and_then (placed_line before) (line_of text)
