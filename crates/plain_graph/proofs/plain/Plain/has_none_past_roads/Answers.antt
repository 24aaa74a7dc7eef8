use Rattle.plan_base.proofs.Common.{ℕ, sym, ap, ◌∙◌, arith, not-true}
use Rattle.plain_graph.proofs.PlaceTies.{none_past_roads}
use Rattle.plain_graph.proofs.plain.Plain.has_none_past_roads.Goals as goal

pub returns-then-first-past : goal.returns-then-first-past
returns-then-first-past c none t =
    let n = c.args.self.now.network.now in
    let first = ap (λ (r : ℕ × ℕ). r.0) c.links_from-first.ensures.range in
    let past = ap (λ (r : ℕ × ℕ). r.1) c.links_from-first.ensures.range in
    none_past_roads n c.args.self.now.timetable.now t c.args.letters c.args.v c.in-Some.letter (sym c.letter.ensures ∙ c.in-Some.is) (omega (arith, first, past, c.if-first-past.true))
    (sym c.is_open.ensures ∙ not-true c.is_open.result none)
