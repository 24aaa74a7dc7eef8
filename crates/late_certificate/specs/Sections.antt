-- Which line may stand where: the head and the query line; the departure and a start at that time, or that no journey is in time; and then what stands
-- there in any certificate.
use Rattle.std.specs.Prelude.{Bool, false, Option, Some, None, option_map, nat_eq, if◌then◌else◌}
use Rattle.certificate.specs.declared.lines.Line.TheVariants as usual
use Rattle.certificate.specs.declared.due.Due.TheVariants as usual_due
use Rattle.certificate.specs.Sections as behind
use Rattle.late_certificate.specs.declared.lines.Line.{Line}
use Rattle.late_certificate.specs.declared.lines.Line.TheVariants as line
pub use Rattle.late_certificate.specs.declared.due.Due.{Due}
use Rattle.late_certificate.specs.declared.due.Due.TheVariants as due

-- what is due behind a line, if the line may stand here
abbrev pub due_behind : Due → Line → Option Due
due_behind due.Head line.Head = Some due.Query
due_behind due.Query (line.Usual (usual.Query bytes)) = Some due.Result
due_behind due.Result (line.Depart at) = Some (due.Start at)
due_behind due.Result (line.Usual usual.Nothing) = Some (due.Usual usual_due.Count)
due_behind (due.Start depart) (line.Usual (usual.Start node at)) = if nat_eq at depart then Some (due.Usual usual_due.Steps) else None
due_behind (due.Usual place) (line.Usual said) = option_map (λ next. due.Usual next) (behind.due_behind place said)
due_behind _ _ = None

-- Nothing stands behind the end.
abbrev pub is_last : Due → Bool
is_last (due.Usual place) = behind.is_last place
is_last _ = false
