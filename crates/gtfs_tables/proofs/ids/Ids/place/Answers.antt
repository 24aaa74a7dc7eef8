use Rattle.plan_base.proofs.Common.{◌∙◌, sym, ap, bytes_eq, position}
use Rattle.gtfs_tables.proofs.ListLemmas.{position-map}
use Rattle.gtfs_tables.proofs.ids.Ids.place.Goals as goal

pub returns-clause-value : goal.returns-clause-value
returns-clause-value c =
    c.get_index_of.ensures.index
    ∙ sym (position-map (λ key. key.items) (bytes_eq c.args.id.now) c.self.inside.ids.keys)
    ∙ ap (position (bytes_eq c.args.id.now)) c.self.view_is
