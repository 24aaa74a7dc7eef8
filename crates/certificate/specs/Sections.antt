-- Which line may stand where: the head, the query line and the graph; the arrival, the start and the steps of a journey, or that there is none; the
-- count of the labels, and exactly so many; and the end.
use Rattle.std.specs.Prelude.{◌-◌, Bool, true, false, Option, Some, None, nat_lt, nat_eq, if◌then◌else◌}
use Rattle.certificate.specs.declared.lines.Line.{Line}
use Rattle.certificate.specs.declared.lines.Line.TheVariants as line
pub use Rattle.certificate.specs.declared.due.Due.{Due}
use Rattle.certificate.specs.declared.due.Due.TheVariants as due

-- what is due behind a line, if the line may stand here
abbrev pub due_behind : Due → Line → Option Due
due_behind due.Head line.Head = Some due.Query
due_behind due.Query (line.Query bytes) = Some due.Graph
due_behind due.Graph (line.Graph phases) = Some due.Result
due_behind due.Result (line.Arrive at) = Some due.Start
due_behind due.Result line.Nothing = Some due.Count
due_behind due.Start (line.Start node at) = Some due.Steps
due_behind due.Steps (line.Step step) = Some due.Steps
due_behind due.Steps (line.Labels count) = Some (due.Labels count)
due_behind due.Count (line.Labels count) = Some (due.Labels count)
due_behind (due.Labels more) (line.Label label) = if nat_lt 0 more then Some (due.Labels (more - 1)) else None
due_behind (due.Labels more) line.End = if nat_eq more 0 then Some due.Nothing else None
due_behind _ _ = None

-- Nothing stands behind the end.
abbrev pub is_last : Due → Bool
is_last due.Nothing = true
is_last _ = false
