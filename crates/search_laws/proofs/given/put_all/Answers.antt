use Rattle.plan_base.proofs.Common.{◌<◌, length, None, Some, inl, inr, ◌∙◌, ap, sym, get_or_default}
use Rattle.search_laws.proofs.given.put_all.Goals.{in-Some, in_default}
use Rattle.search_laws.proofs.given.put_all.Goals as goal

pub loop-run-preserved : goal.loop-run-preserved
loop-run-preserved c = elim c.match-run.branch [
  | in-Some w ↦ (λ other known.
      let k = c.loop-run.run-index in
      let inside : k < length c.args.runs.now = c.loop-run-test.true in
      elim (w.put.ensures other (rw w.cells-is at known)) [
        | inl old ↦ c.loop-run.invariant other old
        | inr same ↦ inr (k, inside, get_or_default c.args.runs.now k (Some other) None inside ∙ (w.in-Some.is ∙ ap Some (sym same)))
      ])
  | in_default w ↦ (λ other known. c.loop-run.invariant other (rw w.cells-is at known))
]
