use Rattle.plan_base.proofs.Common.{ℕ, ◌+◌, ◌<◌, ◌∙◌, [], List, length, get_or, map, Option, None, Bor, sym, ap, subst, length_push}
use Rattle.journey.specs.{Query}
use Rattle.matrix_commands.specs.inside.{IsEndIfAny}
use Rattle.matrix_commands.proofs.PairLemmas.{ends_more, line_at}
use Rattle.matrix_commands.proofs.asking.read_ends.Goals as goal

pub loop-line-preserved : goal.loop-line-preserved
loop-line-preserved c =
    let n = c.args.network.now in
    let it = c.args.asking.now in
    let lines = map (λ (x : Bor (List ℕ)). x.now) c.args.lines.now in
    let k = c.loop-line.line-index in
    let far = c.loop-line.invariant in
    let q = c.in_ok-read_end.field-0 in
    let here = subst (λ (line : List ℕ). IsEndIfAny n it.places it.date.now it.time.now it.expr.now line q) (sym (line_at c.args.lines.now k _ c.loop-line-test.true)) c.in_ok-read_end.ensures in
    let pushed = c.in_ok-push.ensures.items in
    record {
      one_each = ap length pushed ∙ (length_push c.loop-line.queries.items q ∙ ap (λ i. i + 1) far.one_each);
      are = subst (λ (qs : List (Option Query)). (j : ℕ) → j < k + 1 → IsEndIfAny n it.places it.date.now it.time.now it.expr.now (get_or lines j []) (get_or qs j None)) (sym pushed)
          (ends_more (IsEndIfAny n it.places it.date.now it.time.now it.expr.now) lines c.loop-line.queries.items q k far.one_each far.are here);
    }
