use Rattle.plan_base.proofs.Common.{map, sym, ap, ◌∙◌}
use Rattle.gtfs_tables.proofs.ListLemmas.{filter_map-Some}
use Rattle.gtfs_tables.proofs.routes.read_routes.Goals as goal

pub returns-clause-ids : goal.returns-clause-ids
returns-clause-ids c = let read = c.in_ok-routes.ensures.rows in read.kept.keys_are ∙ ap (map (λ route. route.id)) (sym (read.kept.rows_are ∙ filter_map-Some read.all))
