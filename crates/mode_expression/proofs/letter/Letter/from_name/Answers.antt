use Rattle.plan_base.proofs.Common.{◌∙◌, sym, below_more, arith}
use Rattle.mode_expression.proofs.{LetterLemmas.number_of_numbered, LetterLemmas.name_of_numbered, LetterLemmas.none_named, LetterLemmas.some_named, LetterLemmas.is_numbered, letter.Letter.from_name.Goals.in-Some+else-eq, letter.Letter.from_name.Goals.in_default}
use Rattle.mode_expression.proofs.letter.Letter.from_name.Goals as goal

pub loop-number-preserved : goal.loop-number-preserved
loop-number-preserved c = below_more _ _ c.loop-number.invariant
    (elim c.match-from_number.branch [
      | in-Some+else-eq w ↦
          let same = name_of_numbered c.loop-number.number w.in-Some.letter w.name.result.now (sym c.from_number.ensures ∙ w.in-Some.is) w.name.ensures in
          rw (same, ← w.as_bytes.ensures.value) (sym w.eq.ensures ∙ w.if-eq.false)
      | in_default w ↦ is_numbered c.loop-number.number c.loop-number-test.true (sym c.from_number.ensures ∙ w.in_default.is) _
    ])

pub returns : goal.returns
returns c = sym (none_named c.args.name.now (λ k lt. c.loop-number.invariant k (omega arith)))

pub returns-then-eq : goal.returns-then-eq
returns-then-eq c =
    let same = name_of_numbered c.loop-number.number c.in-Some.letter c.name.result.now (sym c.from_number.ensures ∙ c.in-Some.is) c.name.ensures in
    let number = number_of_numbered c.loop-number.number c.in-Some.letter (sym c.from_number.ensures ∙ c.in-Some.is) in
    let found = some_named c.args.name.now c.loop-number.number c.loop-number-test.true c.loop-number.invariant
    (rw (same, ← c.as_bytes.ensures.value) (sym c.eq.ensures ∙ c.if-eq.true)) in
    rw number (sym found)
