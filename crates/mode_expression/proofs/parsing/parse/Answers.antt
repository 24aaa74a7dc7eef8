use Rattle.plan_base.proofs.Common.{inr, arith, err_from_is_err_and}
use Rattle.mode_expression.specs.{form_of}
use Rattle.mode_expression.proofs.ParseLemmas.{spells_of_reading, expressions_are_usable, fault_of_reading}
use Rattle.mode_expression.proofs.parsing.parse.Goals as goal

pub returns-in_err-expr-clause-fault : goal.returns-in_err-expr-clause-fault
returns-in_err-expr-clause-fault c =
    let p = err_from_is_err_and c.from_residual.result c.from_residual.ensures.1 in
    rw (p.1, p.2) (fault_of_reading c.args.text.now _ c.if-text-gt-MOST_BYTES.false c.in_default.ensures.none c.in_err-expr.ensures.fault)

pub returns-then-places-gt-MOST_PLACES-clause-fault :
    goal.returns-then-places-gt-MOST_PLACES-clause-fault
returns-then-places-gt-MOST_PLACES-clause-fault c =
    let form = form_of c.in_ok-expr.expr in
    inr (
      c.if-text-gt-MOST_BYTES.false,
      c.in_default.ensures.none,
      (form, spells_of_reading c.args.text.now form c.in_ok-expr.ensures.read, omega (arith, c.places-places.ensures), c.places-places.ensures),
    )

pub returns-clause-expression : goal.returns-clause-expression
returns-clause-expression c =
    let form = form_of c.in_ok-expr.expr in
    record {
      short = c.if-text-gt-MOST_BYTES.false;
      shallow = c.in_default.ensures.none;
      spells = spells_of_reading c.args.text.now form c.in_ok-expr.ensures.read;
      small = omega (arith, c.places-places.ensures);
    }

pub returns-clause-usable : goal.returns-clause-usable
returns-clause-usable c = expressions_are_usable c.args.text.now (form_of c.in_ok-expr.expr) (returns-clause-expression c)
