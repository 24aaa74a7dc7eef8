-- Reading a line where it stands.
use Rattle.plan_base.proofs.Common.{◌≡◌, ℕ, List, refl, ap, sym, ◌∙◌, subst, true, false, cond, arith, Some, None, option_and_then, nat_eq, nat_le, nat_lt, ◌&&◌, false≢true, nat_tests, cond_some, option_and_then_some}
use Rattle.plain_texts.proofs.Course.{ReadsLines}
use Rattle.service_days.specs.DaysMeaning.{DaysMeaning}
use Rattle.region_file.specs.{Line, Progress, line_of, FitsLine, spelled, behind, behind_days, is_due, is_end, line_at, may_stand, placed_line, progress_after, rank, section_of, start}
use Rattle.region_file.specs.declared.lines.Line.TheVariants as line
use Rattle.region_file.proofs.KindLaws.{line_takes, line_again}

-- what was read here
pub record Stands (before : Progress) (text : List ℕ) (l : Line) (next : Progress) : Type 0 where
  pub read : line_of text ≡ Some l
  pub may : may_stand before l ≡ true
  pub leads : behind before l ≡ next

pub stands : (before : Progress) (text : List ℕ) (l : Line) (next : Progress) → line_at before text ≡ Some (l, next) → Stands before text l next
unfolding line_at
stands before text l next e = option_and_then_some (placed_line before) (line_of text) (l, next) e (λ m is e.
    let found = cond_some (may_stand before m) (m, behind before m) (l, next) e in
    let same : m ≡ l = ap (λ x. x.0) found.1 in
    record { read = is ∙ ap Some same; may = subst (λ x. may_stand before x ≡ true) same found.0; leads = ap (behind before) (sym same) ∙ ap (λ x. x.1) found.1 })

after_is : (before : Progress) (l : Line) → may_stand before l ≡ true → progress_after before l ≡ Some (behind before l)
after_is before l e = ap (λ t. cond t (Some (behind before l)) None) e

takes : (before : Progress) (text : List ℕ) (l : Line) (next : Progress) → line_at before text ≡ Some (l, next) → (text ≡ spelled l) × FitsLine l × (progress_after before l ≡ Some next)
takes before text l next e =
    let s = stands before text l next e in
    let said = line_takes text l s.read in
    (said.0, said.1, after_is before l s.may ∙ ap Some s.leads)

again : (before : Progress) (l : Line) (next : Progress) → FitsLine l → progress_after before l ≡ Some next → line_at before (spelled l) ≡ Some (l, next)
unfolding line_at
again before l next fits e =
    let found = cond_some (may_stand before l) (behind before l) next e in
    ap (option_and_then (placed_line before)) (line_again l fits) ∙ ap (λ t. cond t (Some (l, behind before l)) None) found.0 ∙ ap (λ p. Some (l, p)) found.1

-- no line comes behind the end
none_come : (a b : ℕ) → nat_eq a 8 ≡ true → cond (nat_eq a 0) (nat_eq b 1) (nat_lt 1 b && nat_le a b && nat_lt a 8) ≡ false
none_come a b e = grind (arith, nat_tests)

pub stops : (before : Progress) (l : Line) → is_end before ≡ true → progress_after before l ≡ None
stops before l e = ap (λ t. cond (t && is_due before.calls_due l) (Some (behind before l)) None) (none_come (rank before.section) (rank (section_of l)) e)

-- Lines of a region text are read exactly, so the laws of reading line by line hold.
pub reads_lines : ReadsLines spelled FitsLine progress_after is_end line_at
reads_lines = record { takes = takes; again = again; stops = stops }

-- Days come first.
pub first_is_days : (text : List ℕ) (l : Line) (next : Progress) → line_at start text ≡ Some (l, next) → (days : DaysMeaning) × (l ≡ line.Days days) × (next ≡ behind_days)
first_is_days text l next e = let s = stands start text l next e in by_line l next s.may s.leads
  where
    by_line : (l : Line) (next : Progress) → may_stand start l ≡ true → behind start l ≡ next → (days : DaysMeaning) × (l ≡ line.Days days) × (next ≡ behind_days)
    by_line (line.Days days) next may is = (days, refl, sym is)
    by_line (line.Road mode id place) next may is = absurd (false≢true may)
    by_line (line.Stop name place) next may is = absurd (false≢true may)
    by_line (line.Switch id place) next may is = absurd (false≢true may)
    by_line (line.Arc arc) next may is = absurd (false≢true may)
    by_line (line.Link arc) next may is = absurd (false≢true may)
    by_line (line.Trip letter days calls name) next may is = absurd (false≢true may)
    by_line (line.Call call) next may is = absurd (false≢true may)
    by_line line.End next may is = absurd (false≢true may)
