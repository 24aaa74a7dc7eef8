use Rattle.plan_base.proofs.Common.{◌≡◌, rules, Some}
use Rattle.region_file.specs.{line_at, start}
use Rattle.region_file.proofs.SectionLaws.{first_is_days}
use Rattle.region_file.proofs.decoding.first_line.Goals as goal

pub returns-in-Days : goal.returns-in-Days
returns-in-Days c =
    let read : line_at start c.args.text.now ≡ Some (c.in-Some.line, c.in-Some.field-0-1) = search rules in
    let first = first_is_days c.args.text.now c.in-Some.line c.in-Some.field-0-1 read in
    cc (read, first.2, c.in-Days.is)

pub returns-in-Some : goal.returns-in-Some
returns-in-Some c =
    let read : line_at start c.args.text.now ≡ Some (c.in-Some.line, c.in-Some.field-0-1) = search rules in
    let first = first_is_days c.args.text.now c.in-Some.line c.in-Some.field-0-1 read in
    absurd (c.in_default.not-Days first.0 first.1)
