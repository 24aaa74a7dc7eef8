use Rattle.plan_base.proofs.Common.{subst, arith, get_or, get_or_default, All}
use Rattle.std.proofs.lemmas.List.Elements.{AllWithin-more}
use Rattle.hierarchy.specs.{Entry, no_entry}
use Rattle.rounds.proofs.LayerLemmas.{IsApartAt, apart_all, apart_at}
use Rattle.rounds.proofs.core_layer.Cores.is_apart.Goals as goal

pub returns : goal.returns
returns c =
    λ yes. apart_all c.args.self.now.core.now c.args.sheet.now.slope.nodes.items
    (subst (All (λ (e : Entry). IsApartAt c.args.sheet.now.slope.nodes.items e.from e.to)) c.entries-entry-items.ensures
    (λ k d lt. c.loop-entry.invariant.apart k d (omega arith) (omega (arith, c.loop-entry-test.false))))

pub loop-entry-preserved : goal.loop-entry-preserved
loop-entry-preserved c =
    let nodes = c.args.sheet.now.slope.nodes.items in
    let entries = c.entries-entry-items.result.now in
    let i = c.loop-entry.entry-index in
    let e : Entry = get_or entries i no_entry in
    let here : IsApartAt nodes e.from e.to = apart_at nodes e.from e.to c.has_node.result c.has_node-in-loop-entry.result c.has_node.ensures.yes c.has_node.ensures.no
    c.has_node-in-loop-entry.ensures.yes c.has_node-in-loop-entry.ensures.no c.if-has_node.false in
    record {
      apart = AllWithin-more (λ (x : Entry). IsApartAt nodes x.from x.to) entries 0 i c.loop-entry.invariant.apart
          (λ d. subst (λ (x : Entry). IsApartAt nodes x.from x.to) (get_or_default entries i no_entry d c.loop-entry-test.true) here);
    }
