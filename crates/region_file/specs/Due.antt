-- Which record may stand where in a region in bytes: as many of each kind as the head counts, in the order of the sections, and
-- behind each trip its calls.
use Rattle.std.specs.Prelude.{ℕ, zero, suc, ◌-◌, List, [], ◌∷◌, Option, Some, None, nat_eq, nat_lt, if◌then◌else◌}
use Rattle.region_file.specs.{Sections.calls_due_behind, Sections.rank, Sections.section_of, declared.counts.Counts.Counts, declared.lines.Line.Line, declared.section.Section.Section}
use Rattle.region_file.specs.declared.lines.Line.TheVariants as line
use Rattle.region_file.specs.declared.section.Section.TheVariants as section

-- what is still to come: how many calls of the last trip, and then a record of each of these sections
pub record Due : Type 0 where
  pub calls : ℕ
  pub sections : List Section

-- so many records of a section, before others
abbrev pub announce : ℕ → Section → List Section → List Section
announce zero s others = others
announce (suc n) s others = s ∷ announce n s others

-- the sections of the records that a head counts
abbrev pub announced : Counts → List Section
announced c =
    announce c.roads section.Nodes (announce c.stops section.Stops (announce c.switches section.Switches
    (announce c.arcs section.Arcs (announce c.links section.Links (announce c.trips section.Trips [])))))

abbrev pub due_of : Counts → Due
due_of c = record { calls = 0; sections = announced c }

-- what is due behind a record that is not a call
abbrev pub next_behind : List Section → Line → Option Due
next_behind [] l = None
next_behind (s ∷ more) l = if nat_eq (rank s) (rank (section_of l)) then Some (record { calls = calls_due_behind 0 l; sections = more }) else None

-- what is due behind a record, if it may stand there
abbrev pub record_after : Due → Line → Option Due
record_after due (line.Call call) = if nat_lt 0 due.calls then Some (record due { calls = due.calls - 1 }) else None
record_after due l = if nat_eq due.calls 0 then next_behind due.sections l else None
