-- Reading a line where it stands.
use Rattle.plan_base.proofs.Common.{◌≡◌, refl, ap, true, None, option_map, false≢true}
use Rattle.plain_texts.proofs.Course.{ReadsLines}
use Rattle.certificate.specs.{line_at}
use Rattle.certificate.proofs.SectionLaws as usual
use Rattle.late_certificate.specs.{Line, Due, FitsLine, spelled, late_meaning, due_behind, is_last}
use Rattle.late_certificate.specs.declared.lines.Line.TheVariants as line
use Rattle.late_certificate.specs.declared.due.Due.TheVariants as due
use Rattle.late_certificate.proofs.KindLaws.{line_takes, line_again}

stops : (place : Due) (l : Line) → is_last place ≡ true → due_behind place l ≡ None
stops due.Head l e = absurd (false≢true e)
stops due.Query l e = absurd (false≢true e)
stops due.Result l e = absurd (false≢true e)
stops (due.Start at) l e = absurd (false≢true e)
stops (due.Usual place) line.Head e = refl
stops (due.Usual place) (line.Depart at) e = refl
stops (due.Usual place) (line.Usual said) e = ap (option_map (λ next. due.Usual next)) (usual.stops place said e)

-- Lines of a late certificate's text are read exactly, so the laws of reading line by line hold.
pub reads_lines : ReadsLines spelled FitsLine due_behind is_last (line_at late_meaning)
reads_lines = usual.read_exactly late_meaning spelled FitsLine line_takes line_again stops
