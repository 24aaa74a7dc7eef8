use Rattle.plan_base.proofs.Common.{ℕ, List, ◌∙◌, sym, ap, not, bytes_eq, list_any}
use Rattle.gtfs_tables.proofs.ListLemmas.{list_any-map}
use Rattle.gtfs_tables.proofs.ids.Ids.insert.Goals as goal

pub returns-clause-new : goal.returns-clause-new
returns-clause-new c =
    let keys = c.self.inside.ids.keys in
    let copied = ap (λ (id : List ℕ). list_any (λ key. bytes_eq id key.items) keys) c.in_ok-id.ensures.items in
    let seen = sym (list_any-map (λ key. key.items) (bytes_eq c.args.id.now) keys) ∙ ap (list_any (bytes_eq c.args.id.now)) c.self.view_is in
    c.in_ok-new.ensures.added ∙ ap not (copied ∙ seen)
