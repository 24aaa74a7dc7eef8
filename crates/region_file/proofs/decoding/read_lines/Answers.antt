use Rattle.plan_base.proofs.Common.{◌≡◌, ◌∙◌, ap, sym, rules, arith, length, true, false, ◌<◌, ◌+◌, Some, None, Ok}
use Rattle.plain_texts.specs.{lines_from, next_line_of, pieces}
use Rattle.region_file.specs.{is_end, line_at, put, put_all}
use Rattle.region_file.proofs.OneLine.{is_some, no_line, bad_line, last_line, more_lines, good_line}
use Rattle.region_file.proofs.decoding.read_lines.Goals as goal

pub returns-in_default : goal.returns-in_default
returns-in_default c = sym c.loop-line.invariant.0 ∙ no_line c.loop-line.parts c.loop-line.progress c.loop-line.at c.loop-line.rest.now (sym c.in_default.ensures.line)

pub returns-in_default-2 : goal.returns-in_default-2
returns-in_default-2 c =
    let cut : next_line_of c.loop-line.rest.now ≡ Some (c.in-Some.line.now, c.in-Some.behind.now) = search rules in
    let unread : line_at c.loop-line.progress c.in-Some.line.now ≡ None = search rules in
    sym c.loop-line.invariant.0 ∙ bad_line c.loop-line.parts c.loop-line.progress c.loop-line.at c.loop-line.rest.now _ _ cut unread

pub returns-then-not-is_empty : goal.returns-then-not-is_empty
returns-then-not-is_empty c =
    let cut : next_line_of c.loop-line.rest.now ≡ Some (c.in-Some.line.now, c.in-Some.behind.now) = search rules in
    let read : line_at c.loop-line.progress c.in-Some.line.now ≡ Some (c.in-Some-2.line, c.in-Some-2.next) = search rules in
    let last : is_end c.in-Some-2.next ≡ true = search rules in
    let some : 0 < length c.in-Some.behind.now = is_some c.in-Some.behind.now (sym c.is_empty.ensures ∙ c.if-not-is_empty.true) in
    sym c.loop-line.invariant.0 ∙ more_lines c.loop-line.parts c.loop-line.progress c.loop-line.at c.loop-line.rest.now _ _ _ _ cut read last some

pub returns-then-is_end : goal.returns-then-is_end
returns-then-is_end c =
    let cut : next_line_of c.loop-line.rest.now ≡ Some (c.in-Some.line.now, c.in-Some.behind.now) = search rules in
    let read : line_at c.loop-line.progress c.in-Some.line.now ≡ Some (c.in-Some-2.line, c.in-Some-2.next) = search rules in
    let last : is_end c.in-Some-2.next ≡ true = search rules in
    let none : length c.in-Some.behind.now ≡ 0 = search rules in
    let put_is : c.put.new.parts ≡ put c.loop-line.parts c.in-Some-2.line = search rules in
    sym c.loop-line.invariant.0 ∙ last_line c.loop-line.parts c.loop-line.progress c.loop-line.at c.loop-line.rest.now _ _ _ _ cut read last none ∙ ap Ok (sym put_is)

pub loop-line-preserved : goal.loop-line-preserved
loop-line-preserved c =
    let cut : next_line_of c.loop-line.rest.now ≡ Some (c.in-Some.line.now, c.in-Some.behind.now) = search rules in
    let read : line_at c.loop-line.progress c.in-Some.line.now ≡ Some (c.in-Some-2.line, c.in-Some-2.next) = search rules in
    let going : is_end c.in-Some-2.next ≡ false = search rules in
    let put_is : c.put.new.parts ≡ put c.loop-line.parts c.in-Some-2.line = search rules in
    let step = good_line c.loop-line.parts c.loop-line.progress c.loop-line.at c.loop-line.rest.now _ _ _ _ cut read going in
    let kept : put_all c.put.new.parts (lines_from line_at is_end c.in-Some-2.next (c.loop-line.at + 1) (pieces c.in-Some.behind.now)) ≡ put_all c.args.parts.now (lines_from line_at is_end c.args.progress 3 (pieces c.args.rest.now))
    = ap (λ n. put_all n (lines_from line_at is_end c.in-Some-2.next (c.loop-line.at + 1) (pieces c.in-Some.behind.now))) put_is ∙ sym step ∙ c.loop-line.invariant.0 in
    (kept, omega (arith, c.in-Some.ensures.shorter))
