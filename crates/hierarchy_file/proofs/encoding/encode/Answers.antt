use Rattle.plan_base.proofs.Common.{◌≡◌, ◌∙◌, ◌<◌, ◌^◌, ℕ, ap, length, refl, rules, subst}
use Rattle.hierarchy_file.specs.{HasSpelling}
use Rattle.hierarchy_file.proofs.WholeLaws.{written}
use Rattle.hierarchy_file.proofs.encoding.encode.Goals as goal

pub returns : goal.returns
returns c =
    let h = c.args.lists in
    let parts = c.into_parts-order.result in
    let are = c.into_parts-order.ensures in
    let order_is = c.deref.ensures.value ∙ are.order in
    let entries_are = c.deref-2.ensures.value ∙ are.entries in
    let order_counted : c.len.result ≡ length parts.0.items = search rules in
    let entries_counted : c.len-2.result ≡ length parts.1.items = search rules in
    let order_long : c.len.result ≡ length h.order = order_counted ∙ ap length are.order in
    let entries_long : c.len-2.result ≡ length h.entries = entries_counted ∙ ap length are.entries in
    let witnesses_long : c.len-3.result ≡ length h.witnesses = c.len-3.ensures ∙ ap length are.witnesses in
    let order : c.len.result < 2 ^ 64 = search rules in
    let entries : c.len-2.result < 2 ^ 64 = search rules in
    let witnesses : c.len-3.result < 2 ^ 64 = search rules in
    let text = written h c.in_ok-out.out.items c.push_head.new.out.items c.push_nodes.new.out.items c.push_entries.new.out.items c.push_witnesses.new.out.items
    _ c.deref.result.now c.deref-2.result.now parts.2 order_is entries_are are.witnesses (rw (order_long, entries_long, witnesses_long) refl) c.in_ok-out.ensures.items
    c.in_ok-push_head.ensures c.in_ok-push_nodes.ensures c.in_ok-push_entries.ensures.text c.in_ok-push_witnesses.ensures.text in
    let has : HasSpelling h = record {
      rules = c.known.ensures;
      order_short = subst (λ (k : ℕ). k < 2 ^ 64) order_long order;
      entries_short = subst (λ (k : ℕ). k < 2 ^ 64) entries_long entries;
      witnesses_short = subst (λ (k : ℕ). k < 2 ^ 64) witnesses_long witnesses;
      weights_fit = rw (← entries_are) c.in_ok-push_entries.ensures.fit;
      nodes_short = rw (← are.witnesses) c.in_ok-push_witnesses.ensures.fit;
    } in
    (has, text)
