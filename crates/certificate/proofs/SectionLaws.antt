-- Reading a line where it stands.
use Rattle.plan_base.proofs.Common.{◌≡◌, ℕ, List, refl, ap, sym, ◌∙◌, true, Some, None, option_and_then, option_map, false≢true, option_and_then_some}
use Rattle.plain_texts.proofs.Course.{ReadsLines}
use Rattle.certificate.specs.{Line, Due, FitsLine, spelled, LinedMeaning, line_at, cert_meaning, due_behind, is_last}
use Rattle.certificate.specs.declared.due.Due.TheVariants as due
use Rattle.certificate.proofs.KindLaws.{mapped, line_takes, line_again}

-- what a line by itself says, read exactly, is read so where it may stand
module _ {L P M : Type 0} (kind : LinedMeaning L P M) (spell : L → List ℕ) (Fits : L → Type 0)
    (line_takes : (text : List ℕ) (l : L) → kind.line_of text ≡ Some l → (text ≡ spell l) × Fits l) (line_again : (l : L) → Fits l → kind.line_of (spell l) ≡ Some l)
    (stops : (place : P) (l : L) → kind.is_last place ≡ true → kind.due_behind place l ≡ None) where
  takes : (place : P) (text : List ℕ) (l : L) (next : P) → line_at kind place text ≡ Some (l, next) → (text ≡ spell l) × Fits l × (kind.due_behind place l ≡ Some next)
  unfolding line_at
  takes place text l next e = option_and_then_some (λ l. option_map (λ next. (l, next)) (kind.due_behind place l)) (kind.line_of text) (l, next) e (λ m is e.
      let found = mapped (λ next. (m, next)) (kind.due_behind place m) (l, next) e in
      let same : m ≡ l = ap (λ x. x.0) found.2 in
      let said = line_takes text l (is ∙ ap Some same) in
      (said.0, said.1, ap (kind.due_behind place) (sym same) ∙ found.1 ∙ ap (λ x. Some x.1) found.2))

  again : (place : P) (l : L) (next : P) → Fits l → kind.due_behind place l ≡ Some next → line_at kind place (spell l) ≡ Some (l, next)
  unfolding line_at
  again place l next fits e = ap (option_and_then (λ l. option_map (λ next. (l, next)) (kind.due_behind place l))) (line_again l fits) ∙ ap (option_map (λ next. (l, next))) e

  pub read_exactly : ReadsLines spell Fits kind.due_behind kind.is_last (line_at kind)
  read_exactly = record { takes = takes; again = again; stops = stops }

pub stops : (place : Due) (l : Line) → is_last place ≡ true → due_behind place l ≡ None
stops due.Nothing l e = refl
stops due.Head l e = absurd (false≢true e)
stops due.Query l e = absurd (false≢true e)
stops due.Graph l e = absurd (false≢true e)
stops due.Result l e = absurd (false≢true e)
stops due.Start l e = absurd (false≢true e)
stops due.Steps l e = absurd (false≢true e)
stops due.Count l e = absurd (false≢true e)
stops (due.Labels more) l e = absurd (false≢true e)

-- Lines of a certificate text are read exactly, so the laws of reading line by line hold.
pub reads_lines : ReadsLines spelled FitsLine due_behind is_last (line_at cert_meaning)
reads_lines = read_exactly cert_meaning spelled FitsLine line_takes line_again stops
