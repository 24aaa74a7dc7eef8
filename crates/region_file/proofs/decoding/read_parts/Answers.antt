use Rattle.plan_base.proofs.Common.{◌≡◌, ℕ, List, sym, rules, refl, Some, None}
use Rattle.plain_texts.specs.{next_line_of, pieces, lines_from}
use Rattle.service_days.specs.DaysMeaning.{DaysMeaning}
use Rattle.region_file.specs.declared.lines.Line.TheVariants as line
use Rattle.region_file.specs.{behind_days, is_end, line_at, start, lists_in_text, nothing, put, put_all}
use Rattle.region_file.proofs.OneLine.{no_line, bad_line, good_line}
use Rattle.region_file.proofs.decoding.read_parts.Goals as goal

-- behind its first line a text goes on with the parts of the days
goes_on : (text first rest : List ℕ) (days : DaysMeaning) → next_line_of text ≡ Some (first, rest) → line_at start first ≡ Some (line.Days days, behind_days)
    → lists_in_text text ≡ put_all (put nothing (line.Days days)) (lines_from line_at is_end behind_days 3 (pieces rest))
unfolding lists_in_text
goes_on text first rest days cut read = good_line nothing start 2 text first rest (line.Days days) behind_days cut read refl

pub returns-in_default : goal.returns-in_default
unfolding lists_in_text
returns-in_default c = no_line nothing start 2 c.args.text.now (sym c.in_default.ensures.line)

pub returns-in_ok-read_lines-in-Some-2 : goal.returns-in_ok-read_lines-in-Some-2
returns-in_ok-read_lines-in-Some-2 c =
    let cut : next_line_of c.args.text.now ≡ Some (c.in-Some.line.now, c.in-Some.rest.now) = search rules in
    let read : line_at start c.in-Some.line.now ≡ Some (line.Days c.in-Some-2.days, behind_days) = search rules in
    rw (goes_on c.args.text.now c.in-Some.line.now c.in-Some.rest.now c.in-Some-2.days cut read) (search rules)

pub returns-in_err-read_lines-in-Some-2 : goal.returns-in_err-read_lines-in-Some-2
returns-in_err-read_lines-in-Some-2 c =
    let cut : next_line_of c.args.text.now ≡ Some (c.in-Some.line.now, c.in-Some.rest.now) = search rules in
    let read : line_at start c.in-Some.line.now ≡ Some (line.Days c.in-Some-2.days, behind_days) = search rules in
    rw (goes_on c.args.text.now c.in-Some.line.now c.in-Some.rest.now c.in-Some-2.days cut read) (search rules)

pub returns-in-None : goal.returns-in-None
unfolding lists_in_text
returns-in-None c =
    let cut : next_line_of c.args.text.now ≡ Some (c.in-Some.line.now, c.in-Some.rest.now) = search rules in
    let unread : line_at start c.in-Some.line.now ≡ None = search rules in
    bad_line nothing start 2 c.args.text.now c.in-Some.line.now c.in-Some.rest.now cut unread
