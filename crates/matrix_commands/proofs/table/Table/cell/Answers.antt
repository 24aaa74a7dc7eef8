use Rattle.plan_base.proofs.Common.{inr, Bor, ◌∙◌, ◌<◌, [], List, ℕ, Option, None, length, get_or, sym, subst, arith, IfOk, get_or_default, length-map}
use Rattle.journey.specs.{Query}
use Rattle.planning.specs.{IsArrivalTo, asked_to}
use Rattle.matrix_commands.specs.{IsCellOf, query_line_of, inside.HasArrivals, inside.IsCellIn, inside.IsEndIfAny, inside.cell_of_arrival, inside.lines_in}
use Rattle.matrix_commands.proofs.{CellLemmas.timed_right, PairLemmas.line_at, PairLemmas.pair_asks, PairLemmas.pair_small}
use Rattle.matrix_commands.proofs.table.Table.cell.Goals as goal

pub returns-in-Some-Some : goal.returns-in-Some-Some
returns-in-Some-Some c =
    let t = c.args.self.now in
    let it = t.asking.now in
    let n = t.destinations.now.network.now in
    let queries = t.destinations.now.queries.now in
    let from = c.args.origin.now.line.now in
    let times = c.args.origin.now.times.items in
    let k = c.args.k in
    let to = get_or (lines_in t) k [] in
    let q = c.in-Some-Some.query in
    let other = c.in-Some-Some.field-0-1 in
    let ends = c.requires.table.ends in
    let has = subst (λ (o : Option Query). HasArrivals t from o times) c.in-Some-Some.is-0 c.requires.origin in
    let inside : k < length (lines_in t) = omega (arith, c.requires.place, length-map t.lines.now (λ (x : Bor (List ℕ)). x.now)) in
    let there : k < length queries = omega (arith, inside, ends.one_each) in
    let other_is = get_or_default queries k None c.index-self-k.result there ∙ c.in-Some-Some.is-1 in
    let end = subst (λ (o : Option Query). IsEndIfAny n it.places it.date.now it.time.now it.expr.now to o) other_is (ends.are k inside) in
    let arrives = subst (λ (o : Option Query). IsArrivalTo n q o (get_or times k None)) other_is (has.1.are k there) in
    let line = query_line_of it.date.now it.time.now it.expr.now from to in
    let right = timed_right n line (asked_to q other) (get_or times k None) (pair_asks n it.places it.date.now it.time.now it.expr.now from to q other has.0 end) arrives in
    let time = get_or_default times k None c.index.result.now (omega (arith, there, has.1.one_each)) ∙ sym c.index.ensures in
    let small = pair_small n it.places it.date.now it.time.now it.expr.now from to q other has.0 end in
    rw c.timed.ensures (inr (small, subst (λ (arrival : Option ℕ). IsCellOf n line (cell_of_arrival q.depart arrival)) time right))

pub returns-in_default : goal.returns-in_default
returns-in_default c =
    let t = c.args.self.now in
    subst (λ (to : List ℕ). IfOk c.cell_apart.result (IsCellIn t c.args.origin.now.line.now to)) (sym (line_at t.lines.now c.args.k _ c.requires.place)) c.cell_apart.ensures
