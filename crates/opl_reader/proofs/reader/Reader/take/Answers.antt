use Rattle.plan_base.proofs.Common.{sym, ap, subst, ◌∙◌, Ok, err_from_is_err_and}
use Rattle.opl_reader.specs.{IsFaultOf, state_of, on_ok, holding, with_end, with_bytes}
use Rattle.opl_reader.proofs.ByteLemmas.{fault_goes_on, line_first, line_none}
use Rattle.opl_reader.proofs.reader.Reader.take.Goals as goal

pub loop-line-preserved : goal.loop-line-preserved
loop-line-preserved c =
    let first = line_first (state_of c.loop-line.self) c.loop-line.rest.now c.in-Some.line.now c.in-Some.behind.now (sym c.in-Some.ensures.parts) in
    sym (first ∙ ap (λ r. on_ok r (λ t. with_bytes t c.in-Some.behind.now)) c.in_ok-end_line.ensures.ok) ∙ c.loop-line.invariant

pub returns-in_err-end_line-clause-fault : goal.returns-in_err-end_line-clause-fault
returns-in_err-end_line-clause-fault c =
    let p = err_from_is_err_and c.from_residual.result c.from_residual.ensures.1 in
    let first = line_first (state_of c.loop-line.self) c.loop-line.rest.now c.in-Some.line.now c.in-Some.behind.now (sym c.in-Some.ensures.parts) in
    let fault = c.in_err-end_line.field-0.0 in
    let here : IsFaultOf (with_bytes (state_of c.args.self.now) c.args.piece.now) fault =
    subst (λ r. IsFaultOf r fault) (sym first ∙ c.loop-line.invariant)
    (fault_goes_on (with_end (holding (state_of c.loop-line.self) c.in-Some.line.now)) (λ t. with_bytes t c.in-Some.behind.now) fault c.in_err-end_line.ensures.fault) in
    rw (p.1, p.2) here

pub returns-clause-ok : goal.returns-clause-ok
returns-clause-ok c =
    sym c.loop-line.invariant ∙ line_none (state_of c.loop-line.self) c.loop-line.rest.now (sym c.in_default.ensures.parts)
    ∙ ap (λ held. Ok (record (state_of c.loop-line.self) { held = held })) (sym c.in_ok-extend_from_slice.ensures.items)
