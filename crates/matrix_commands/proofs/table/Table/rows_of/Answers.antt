use Rattle.plan_base.proofs.Common.{◌≡◌, ◌<◌, ◌++◌, ◌∷◌, [], List, ℕ, Bor, length, get_or, take, sym, subst, arith, length-map, take_more}
use Rattle.matrix_commands.specs.{cell_text, AreRowsOf, row_text, inside.IsCellIn, inside.lines_in}
use Rattle.matrix_commands.proofs.{CellLemmas.rows_more, PairLemmas.line_at}
use Rattle.matrix_commands.proofs.table.Table.rows_of.Goals as goal

pub loop-k-preserved : goal.loop-k-preserved
loop-k-preserved c =
    let t = c.args.self.now in
    let it = t.asking.now in
    let n = t.destinations.now.network.now in
    let from = c.args.from.now in
    let lines = lines_in t in
    let k = c.loop-k.k in
    let inside = c.loop-k-test.true in
    let lt : k < length lines = omega (arith, length-map t.lines.now (λ (x : Bor (List ℕ)). x.now)) in
    let to = get_or lines k [] in
    let cell = c.in_ok-cell.cell in
    let right = subst (λ (line : List ℕ). IsCellIn t line to cell) c.in_ok-origin.ensures.line c.in_ok-cell.ensures in
    let more = rows_more n it.places it.date.now it.time.now it.expr.now from (take k lines) to c.loop-k.rows.items cell c.loop-k.invariant right in
    let rows = subst (λ (line : List ℕ). c.push_row.new.rows.items ≡ c.loop-k.rows.items ++ row_text from line (cell_text cell)) (sym (line_at t.lines.now k _ inside)) c.in_ok-push_row.ensures in
    subst (λ (ls : List (List ℕ)). AreRowsOf n it.places ls it.date.now it.time.now it.expr.now from c.push_row.new.rows.items) (sym (take_more lines k [] lt))
    (subst (λ (out : List ℕ). AreRowsOf n it.places (take k lines ++ to ∷ []) it.date.now it.time.now it.expr.now from out) (sym rows) more)
