use Rattle.plan_base.proofs.Common.{◌≡◌, ◌∙◌, ap, ap₂, sym, rules, arith, length, true, false, ◌<◌, ◌+◌, Some, None, Ok}
use Rattle.plain_texts.specs.{lines_from, next_line_of, pieces}
use Rattle.certificate.specs.{made_by, line_at, reading}
use Rattle.certificate.proofs.OneLine.{is_some, no_line, bad_line, last_line, more_lines, good_line}
use Rattle.certificate.proofs.line_by_line.read_lines.Goals as goal

pub loop-line-init : goal.loop-line-init
loop-line-init g c =
    let kind = g.K.Lined.meaning in
    (ap₂ (λ certificate place. made_by kind.put certificate (lines_from (line_at kind) kind.is_last place 1 (pieces c.args.text.now))) c.nothing-certificate.ensures c.first-place.ensures, omega arith)

pub returns-in_default : goal.returns-in_default
returns-in_default g c =
    let kind = g.K.Lined.meaning in
    sym c.loop-line.invariant.0 ∙ no_line kind.put (line_at kind) kind.is_last c.loop-line.certificate c.loop-line.place c.loop-line.at c.loop-line.rest.now (sym c.in_default.ensures.line)

pub returns-in_default-2 : goal.returns-in_default-2
returns-in_default-2 g c =
    let kind = g.K.Lined.meaning in
    let cut : next_line_of c.loop-line.rest.now ≡ Some (c.in-Some.line.now, c.in-Some.behind.now) = search rules in
    let unread : line_at kind c.loop-line.place c.in-Some.line.now ≡ None = search rules in
    sym c.loop-line.invariant.0 ∙ bad_line kind.put (line_at kind) kind.is_last c.loop-line.certificate c.loop-line.place c.loop-line.at c.loop-line.rest.now _ _ cut unread

pub returns-then-not-is_empty : goal.returns-then-not-is_empty
returns-then-not-is_empty g c =
    let kind = g.K.Lined.meaning in
    let cut : next_line_of c.loop-line.rest.now ≡ Some (c.in-Some.line.now, c.in-Some.behind.now) = search rules in
    let read : line_at kind c.loop-line.place c.in-Some.line.now ≡ Some (c.in-Some-2.line, c.in-Some-2.next) = search rules in
    let last : kind.is_last c.in-Some-2.next ≡ true = search rules in
    let some : 0 < length c.in-Some.behind.now = is_some c.in-Some.behind.now (sym c.is_empty.ensures ∙ c.if-not-is_empty.true) in
    sym c.loop-line.invariant.0 ∙ more_lines kind.put (line_at kind) kind.is_last c.loop-line.certificate c.loop-line.place c.loop-line.at c.loop-line.rest.now _ _ _ _ cut read last some

pub returns-then-is_last : goal.returns-then-is_last
returns-then-is_last g c =
    let kind = g.K.Lined.meaning in
    let cut : next_line_of c.loop-line.rest.now ≡ Some (c.in-Some.line.now, c.in-Some.behind.now) = search rules in
    let read : line_at kind c.loop-line.place c.in-Some.line.now ≡ Some (c.in-Some-2.line, c.in-Some-2.next) = search rules in
    let last : kind.is_last c.in-Some-2.next ≡ true = search rules in
    let none : length c.in-Some.behind.now ≡ 0 = search rules in
    let put_is : c.put.new.self ≡ kind.put c.loop-line.certificate c.in-Some-2.line = search rules in
    sym c.loop-line.invariant.0 ∙ last_line kind.put (line_at kind) kind.is_last c.loop-line.certificate c.loop-line.place c.loop-line.at c.loop-line.rest.now _ _ _ _ cut read last none ∙ ap Ok (sym put_is)

pub loop-line-preserved : goal.loop-line-preserved
loop-line-preserved g c =
    let kind = g.K.Lined.meaning in
    let cut : next_line_of c.loop-line.rest.now ≡ Some (c.in-Some.line.now, c.in-Some.behind.now) = search rules in
    let read : line_at kind c.loop-line.place c.in-Some.line.now ≡ Some (c.in-Some-2.line, c.in-Some-2.next) = search rules in
    let going : kind.is_last c.in-Some-2.next ≡ false = search rules in
    let put_is : c.put.new.self ≡ kind.put c.loop-line.certificate c.in-Some-2.line = search rules in
    let step = good_line kind.put (line_at kind) kind.is_last c.loop-line.certificate c.loop-line.place c.loop-line.at c.loop-line.rest.now _ _ _ _ cut read going in
    let kept : made_by kind.put c.put.new.self (lines_from (line_at kind) kind.is_last c.in-Some-2.next (c.loop-line.at + 1) (pieces c.in-Some.behind.now)) ≡ reading kind c.args.text.now
    = ap (λ n. made_by kind.put n (lines_from (line_at kind) kind.is_last c.in-Some-2.next (c.loop-line.at + 1) (pieces c.in-Some.behind.now))) put_is ∙ sym step ∙ c.loop-line.invariant.0 in
    (kept, omega (arith, c.in-Some.ensures.shorter))
