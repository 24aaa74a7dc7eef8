use Rattle.plan_base.proofs.Common.{◌∙◌, Bor, List, ℕ, length, sym, subst, option_map}
use Rattle.hierarchy.specs.declared.hierarchy.Hierarchy.{Hierarchy}
use Rattle.phase_graph.specs.{IsInUse, meaning_in_use}
use Rattle.planning.specs.{ArePartsFor}
use Rattle.planning.proofs.destinations.Destinations.new.Goals as goal

pub returns-clause-ready : goal.returns-clause-ready
returns-clause-ready c =
    let n = c.args.network.now in
    let h = option_map (λ (x : Bor Hierarchy). x.now) c.args.hierarchy in
    let l = c.in_ok-targets.field-0 in
    let listed = c.in_ok-targets.ensures in
    record {
      sound = c.in_ok-graph.ensures.sound;
      targets = l.targets.items;
      in_use = subst (λ (ts : List ℕ). IsInUse n h ts (meaning_in_use c.in_ok-graph.graph)) c.deref.ensures.value c.in_ok-graph.ensures.is;
      numbers_are = c.in_ok-table.ensures ∙ listed.numbers_are;
      descents = rw c.deref-2.ensures.value at c.in_ok-descents.ensures;
      one_each = listed.one_each;
      are = subst (λ (ns : List ℕ). ArePartsFor n h l.targets.items ns c.args.queries.now l.parts.items (length c.args.queries.now)) (sym c.in_ok-table.ensures) listed.are;
    }
