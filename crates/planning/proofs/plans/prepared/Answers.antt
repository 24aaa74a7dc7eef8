use Rattle.plan_base.proofs.Common.{◌∙◌, ◌<◌, List, ℕ, sym, ap, subst, Bor, option_map, All}
use Rattle.hierarchy.specs.declared.hierarchy.Hierarchy.{Hierarchy}
use Rattle.automaton.specs.{position_meaning}
use Rattle.mode_expression.specs.{form_of}
use Rattle.phase_graph.specs.{IsInUse, starts_in, ends_in, meaning_in_use}
use Rattle.kept_automata.proofs.TextLemmas.{query_spells}
use Rattle.planning.proofs.PlanLemmas.{starts_low}
use Rattle.planning.proofs.plans.prepared.Goals as goal

pub take-requires-clause-spelled : goal.take-requires-clause-spelled
take-requires-clause-spelled c = query_spells c.args.network.now _ _ _ _ _ c.requires.read.asks

pub invariant_of-result : goal.invariant_of-result
invariant_of-result c =
    let h = option_map (λ (x : Bor Hierarchy). x.now) c.args.hierarchy in
    let g = meaning_in_use c.in_ok-graph.graph in
    let targets = c.in_ok-targets.targets.items in
    let in_use = subst (λ (ts : List ℕ). IsInUse c.args.network.now h ts g) c.deref.ensures.value c.in_ok-graph.ensures.is in
    record {
      starts_there = subst (All (λ v. v < g.nodes)) (sym (c.in_ok-starts.ensures ∙ ap (starts_in h) c.deref-2.ensures.value))
          (starts_low c.args.network.now h targets g in_use c.in_ok-origins.origins.items c.in_ok-origins.ensures.nodes);
    }

pub returns-clause-is : goal.returns-clause-is
returns-clause-is c =
    let n = c.args.network.now in
    let q = c.args.query.now in
    let h = option_map (λ (x : Bor Hierarchy). x.now) c.args.hierarchy in
    let g = meaning_in_use c.in_ok-graph.graph in
    let origins = c.in_ok-origins.origins.items in
    let targets = c.in_ok-targets.targets.items in
    let labels = c.in_ok-expressed.expressed.made.labels.inner in
    let starts = c.in_ok-starts.ensures ∙ ap (starts_in h) c.deref-2.ensures.value in
    let ends = c.in_ok-ends.ensures ∙ ap (ends_in h) c.deref-3.ensures.value in
    let in_use = subst (λ (ts : List ℕ). IsInUse n h ts g) c.deref.ensures.value c.in_ok-graph.ensures.is in
    record {
      sound = c.in_ok-graph.ensures.sound;
      origins = origins;
      targets = targets;
      origin = c.in_ok-origins.ensures.are;
      destination = c.in_ok-targets.ensures.are;
      in_use = in_use;
      starts_are = starts;
      ends_are = ends;
      positions = c.in_ok-expressed.ensures;
      denotes = c.positions_accept.ensures.collapsed (form_of q.expr) c.requires.read.usable (position_meaning labels) labels.lawful c.in_ok-expressed.ensures;
      lawful = labels.lawful;
    }
