use Rattle.plan_base.proofs.Common.{◌∙◌, ap, refl, sym, option_map, err_from_is_err_and}
use Rattle.mode_expression.specs.{form_of}
use Rattle.journey.specs.{inside.shape_shown, departs_at}
use Rattle.journey.proofs.{QueryLemmas.clock_refusal, QueryLemmas.destination_refusal, QueryLemmas.expression_refusal, LineLemmas.query_is_line}
use Rattle.journey.proofs.query.read_query.Goals as goal

pub returns-in_err-depart-clause-fault : goal.returns-in_err-depart-clause-fault
returns-in_err-depart-clause-fault c =
    let p = err_from_is_err_and c.from_residual-in_err-depart.result c.from_residual-in_err-depart.ensures.1 in
    let shape = sym c.in_ok-shape.ensures ∙ ap (option_map shape_shown) c.in-Some.is in
    rw (p.1, p.2) (clock_refusal c.args.network.now c.args.line.now (shape_shown c.in-Some.shape) shape c.in_err-depart.field-0.0 (ap (λ days. departs_at days (shape_shown c.in-Some.shape)) (sym c.days.ensures) ∙ (sym c.departs_at.ensures.value ∙ c.in_err-depart.was)))

pub returns-in-Some-lack_of-2-clause-fault : goal.returns-in-Some-lack_of-2-clause-fault
returns-in-Some-lack_of-2-clause-fault c =
    let shape = sym c.in_ok-shape.ensures ∙ ap (option_map shape_shown) c.in-Some.is in
    rw c.at_destination.ensures (destination_refusal c.args.network.now c.args.line.now (shape_shown c.in-Some.shape) c.in_ok-depart.depart shape
    (ap (λ days. departs_at days (shape_shown c.in-Some.shape)) (sym c.days.ensures) ∙ (sym c.departs_at.ensures.value ∙ c.in_ok-depart.was))
    c.in_default-lack_of.ensures _ c.in-Some-lack_of-2.ensures)

pub returns-in_err-expr-clause-fault : goal.returns-in_err-expr-clause-fault
returns-in_err-expr-clause-fault c =
    let p = err_from_is_err_and c.from_residual-in_err-expr.result c.from_residual-in_err-expr.ensures.1 in
    let shape = sym c.in_ok-shape.ensures ∙ ap (option_map shape_shown) c.in-Some.is in
    rw (p.1, p.2) (expression_refusal c.args.network.now c.args.line.now (shape_shown c.in-Some.shape) c.in_ok-depart.depart shape
    (ap (λ days. departs_at days (shape_shown c.in-Some.shape)) (sym c.days.ensures) ∙ (sym c.departs_at.ensures.value ∙ c.in_ok-depart.was))
    c.in_default-lack_of.ensures c.in_default-lack_of-2.ensures c.in_err-expr.field-0.0 c.in_err-expr.ensures.fault)

pub returns-clause-plain : goal.returns-clause-plain
returns-clause-plain c =
    let shape = shape_shown c.in-Some.shape in
    let shape_is = sym c.in_ok-shape.ensures ∙ ap (option_map shape_shown) c.in-Some.is in
    let departs = ap (λ days. departs_at days shape) (sym c.days.ensures) ∙ (sym c.departs_at.ensures.value ∙ c.in_ok-depart.was) in
    query_is_line c.args.network.now c.known.ensures c.args.line.now shape.from shape.to c.in_ok-depart.depart (form_of c.in_ok-expr.expr) (record {
      shape = shape;
      reaches = record { departs = record { shape_is = shape_is; departs = departs }; from_known = c.in_default-lack_of.ensures; to_known = c.in_default-lack_of-2.ensures };
      from_is = refl;
      to_is = refl;
      expression = c.in_ok-expr.ensures.expression;
    })
