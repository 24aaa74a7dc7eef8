use Rattle.plan_base.proofs.Common.{◌∙◌, List, ℕ, Bor, map, ap, subst, err_from_is_err_and}
use Rattle.mode_network.specs.NetworkLists.{NetworkLists}
use Rattle.run_steps.specs.{declared.outcome.FileRole.TheVariants.Origins, Done, AnswersFile, query_lines, scene, Ends, end_of}
use Rattle.run_steps.proofs.PieceLemmas.{stops_early}
use Rattle.matrix_commands.specs.{AreRowsOf}
use Rattle.matrix_commands.proofs.tabulating.write_rows.Goals as goal

pub returns-in_err-lines : goal.returns-in_err-lines
returns-in_err-lines g c =
    let p = err_from_is_err_and c.from_residual.result c.from_residual.ensures.1 in
    rw (p.1, p.2) (stops_early Origins _ _ (λ bytes. Ends Done) _ _)

pub returns-in_err-queries : goal.returns-in_err-queries
returns-in_err-queries g c =
    let p = err_from_is_err_and c.from_residual-in_err-queries.result c.from_residual-in_err-queries.ensures.1 in
    rw (p.1, p.2) (stops_early Origins _ _ (λ bytes. Ends Done) _ _)

pub returns-in_err-destinations : goal.returns-in_err-destinations
returns-in_err-destinations g c =
    let p = err_from_is_err_and c.from_residual-in_err-destinations.result c.from_residual-in_err-destinations.ensures.1 in
    rw (p.1, p.2) (stops_early Origins _ _ (λ bytes. Ends Done) _ _)

pub returns : goal.returns
returns g c =
    let it = c.args.asking.now in
    let old = scene (g.F.Shelf.meaning c.args.ports.now.shelf) (g.O.Sink.meaning c.args.ports.now.out) in
    let new = scene (g.F.Shelf.meaning c.answer_file.new.ports.shelf) (g.O.Sink.meaning c.answer_file.new.ports.out) in
    let said = λ (n : NetworkLists) (lines : List (List ℕ)). AnswersFile Origins c.args.origins.now (AreRowsOf n it.places lines it.date.now it.time.now it.expr.now) old new (end_of c.answer_file.result) in
    let lines = ap (map (λ (x : Bor (List ℕ)). x.now)) c.deref-3.ensures.value ∙ c.in_ok-lines.ensures in
    subst (λ (n : NetworkLists). said n (query_lines c.args.bytes.now)) c.in_ok-destinations.ensures.network
    (subst (λ (ls : List (List ℕ)). said c.in_ok-destinations.destinations.network.now ls) lines c.answer_file.ensures)
