use Rattle.plan_base.proofs.Common.{◌∙◌, inl, inr, Bor, sym, err_from_is_err_and, option_map}
use Rattle.hierarchy.specs.declared.hierarchy.Hierarchy.{Hierarchy}
use Rattle.run_steps.specs.{scene}
use Rattle.answer_commands.proofs.{LentLemmas.lent_same, SettledLemmas.none_settled, SettledLemmas.settled_ends, SettledLemmas.unmade_settled}
use Rattle.answer_commands.proofs.answering.answer_over.Goals as goal

pub returns-in_err-settled : goal.returns-in_err-settled
returns-in_err-settled g c =
    let p = err_from_is_err_and c.from_residual.result c.from_residual.ensures.1 in
    rw (p.1, p.2) (inl c.in_err-settled.ensures.err)

pub returns-in_err-line : goal.returns-in_err-line
returns-in_err-line g c =
    let p = err_from_is_err_and c.from_residual-in_err-line.result c.from_residual-in_err-line.ensures.1 in
    let done = c.in_ok-settled.ensures.ok in
    let shelf = g.F.Shelf.meaning c.write_in_turn.new.ports.shelf in
    let mid = g.O.Sink.meaning c.write_in_turn.new.ports.out in
    let some = lent_same c.args.hierarchy ∙ (sym c.is_some.ensures ∙ c.if-is_some.true) in
    rw (p.1, p.2)
    (inr (done.0, scene shelf mid, done.1, unmade_settled c.args.network.now c.args.limits shelf mid done.0 (option_map (λ (x : Bor Hierarchy). x.now) c.args.hierarchy) some))

pub returns-then-is_some : goal.returns-then-is_some
returns-then-is_some g c =
    let done = c.in_ok-settled.ensures.ok in
    let n = c.args.network.now in
    let h = option_map (λ (x : Bor Hierarchy). x.now) c.args.hierarchy in
    let sum = c.in_ok-settled.settled in
    let shelf = g.F.Shelf.meaning c.write_in_turn.new.ports.shelf in
    let mid = g.O.Sink.meaning c.write_in_turn.new.ports.out in
    let some = lent_same c.args.hierarchy ∙ (sym c.is_some.ensures ∙ c.if-is_some.true) in
    inr (
      done.0,
      scene shelf mid,
      done.1,
      settled_ends n c.args.limits shelf mid done.0 h some (g.O.Sink.meaning c.write_text.new.out) sum done.2 c.write_text.result
          (rw (← c.in_ok-line.ensures, ← c.deref.ensures.value) c.write_text.ensures.ok) (rw (← c.in_ok-line.ensures, ← c.deref.ensures.value) c.write_text.ensures.err),
    )

pub returns : goal.returns
returns g c =
    let done = c.in_ok-settled.ensures.ok in
    let shelf = g.F.Shelf.meaning c.write_in_turn.new.ports.shelf in
    let mid = g.O.Sink.meaning c.write_in_turn.new.ports.out in
    let none = lent_same c.args.hierarchy ∙ (sym c.is_some.ensures ∙ c.if-is_some.false) in
    inr (done.0, scene shelf mid, done.1, none_settled c.args.network.now c.args.limits shelf mid done.0 (option_map (λ (x : Bor Hierarchy). x.now) c.args.hierarchy) none)
