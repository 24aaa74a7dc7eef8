use Rattle.plan_base.proofs.Common.{List, ℕ, ◌++◌, [], ◌∷◌, ap, ◌∙◌, Vec, Global, hash_map_updates_str}
use Rattle.region_build.specs.inside.{at}
use Rattle.region_build.proofs.ServiceLaws.{date_put, items_of, items_taken}
use Rattle.region_build.proofs.services.note_date.Goals as goal

pub returns : goal.returns
returns c = λ id.
    let bytes = c.as_bytes-id.result.now in
    date_put (at c.args.dates.now) (at c.remove.new.self) (at c.insert.new.self) bytes c.args.row.now.date c.push.new.self
    (hash_map_updates_str bytes c.args.dates.now c.remove.new.self _ c.remove.ensures.updates)
    (hash_map_updates_str bytes c.remove.new.self c.insert.new.self _ c.in_ok-insert.ensures.updates)
    (c.in_ok-push.ensures.items
    ∙ ap (λ (items : List ℕ). items ++ c.args.row.now.date ∷ []) (ap (λ (v : Vec ℕ Global). v.items) c.unwrap_or-own.ensures ∙ items_taken c.remove.result c.new.result c.new.ensures.items ∙ ap items_of c.remove.ensures.value))
    c.args.row.now.id c.as_bytes-id.ensures id
