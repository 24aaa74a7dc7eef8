use Rattle.plan_base.proofs.Common.{ap, ◌∙◌, refl, Some, bytes_eq}
use Rattle.gtfs_tables.specs.{RouteRow, routes}
use Rattle.gtfs_tables.proofs.{ListLemmas.was_new, ListLemmas.was_known, TableLemmas.repeated, TableLemmas.known_key, TableLemmas.joins}
use Rattle.gtfs_tables.proofs.routes.RoutesTakesRows.take.Goals as goal

pub returns-then-not-branch-clause-row : goal.returns-then-not-branch-clause-row
returns-then-not-branch-clause-row c earlier kept =
    let route : RouteRow = record { row = c.in_ok-line.line.row; id = c.in_ok-line.line.id.now; letter = c.in_ok-line.line.letter } in
    let known = known_key _ _ _ _ earlier kept bytes_eq route.id ∙ was_known _ _ c.in_ok-insert.ensures.new c.if-not-branch.true in
    repeated (routes c.args.self.now.caps) earlier c.args.row.now route c.in_ok-line.ensures known c.repeated_key.result c.repeated_key.ensures

pub returns-clause-row : goal.returns-clause-row
returns-clause-row c earlier kept =
    let route : RouteRow = record { row = c.in_ok-line.line.row; id = c.in_ok-line.line.id.now; letter = c.in_ok-line.line.letter } in
    let new = known_key _ _ _ _ earlier kept bytes_eq route.id ∙ was_new _ _ c.in_ok-insert.ensures.new c.if-not-branch.false in
    joins _ _ _ _ earlier kept c.args.row.now route c.in_ok-line.ensures new refl (λ _. refl) _ (ap Some c.in_ok-route.ensures) _ _ refl
    c.push_row.result c.push_row.new.rows.items c.push_row.ensures.rows c.push_row.ensures.few c.push_row.ensures.fault _ (c.in_ok-insert.ensures.ids c.if-not-branch.false) _ (λ _ holds. holds)
