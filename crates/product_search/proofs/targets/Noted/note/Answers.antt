use Rattle.plan_base.proofs.Common.{◌≡◌, ℕ, ◌-◌, ◌<◌, ◌∙◌, length, set, Option, Some, None, ap, sym, subst, arith, slice_index_or, get_or_default}
use Rattle.product_search.specs.inside.{IsNoted, earlier}
use Rattle.product_search.proofs.NotingLemmas.{noted_at}
use Rattle.product_search.proofs.targets.Noted.note.Goals as goal

pub returns-then-place-gt0-clause-noted : goal.returns-then-place-gt0-clause-noted
returns-then-place-gt0-clause-noted c =
    let places = c.args.targets.now.places.items in
    let old = c.args.self.now.times.items in
    let p = c.place-place.result in
    let within : p - 1 < length old = omega (arith, c.place-place.ensures.within, c.requires) in
    let value : c.earlier-time.result ≡ earlier (slice_index_or old (p - 1) None) c.args.at =
    c.earlier-time.ensures ∙ ap (λ (o : Option ℕ). earlier o c.args.at) (c.index.ensures ∙ get_or_default old (p - 1) c.index.result.now None within) in
    subst (λ (t : ℕ). IsNoted places old (set old (p - 1) (Some t)) c.args.node c.args.at) (sym value)
    (noted_at c.args.targets.now.nodes.items places old c.args.node c.args.at p c.args.targets.now.placed c.requires c.place-place.ensures.place c.if-place-gt0.true)
