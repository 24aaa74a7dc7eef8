use Rattle.plan_base.proofs.Common.{◌≡◌, ◌<◌, ℕ, List, [], Option, Some, sym, subst, subst₂, All, IfSome}
use Rattle.phase_graph.specs.{IsInUse, meaning_in_use}
use Rattle.phase_graph.proofs.InUseLemmas.{graphs_in_use_are_lawful}
use Rattle.rounds.specs.declared.rounds.Rounds.{Rounds}
use Rattle.descents.specs.{AreDescents, AreRoundsOver, Descents.Descents}
use Rattle.descents.proofs.{NodeLemmas.starts_within, ListedLemmas.all_reached}
use Rattle.descents.proofs.descents.Descents.labels.Goals as goal

-- the rounds go over the network and the hierarchy
over : (d : Descents) → AreDescents d → (r : Rounds) → d.rounds ≡ Some r → AreRoundsOver d.network.now d.hierarchy.now r
over d is r some = subst (λ (o : Option Rounds). IfSome o (AreRoundsOver d.network.now d.hierarchy.now)) some is.rounds

pub labels-requires-clause-is : goal.labels-requires-clause-is
labels-requires-clause-is g c = (over c.args.self.now c.requires.is c.in-Some.rounds c.in-Some.is).are

pub labels-requires-clause-starts : goal.labels-requires-clause-starts
labels-requires-clause-starts g c =
    let o = over c.args.self.now c.requires.is c.in-Some.rounds c.in-Some.is in
    rw (o.network, o.hierarchy) c.requires.starts

pub returns-in-Some-2 : goal.returns-in-Some-2
returns-in-Some-2 g c =
    let r = c.in-Some.rounds in
    let o = over c.args.self.now c.requires.is r c.in-Some.is in
    record {
      graph = meaning_in_use r.graph;
      in_use = subst₂ (λ n h. IsInUse n (Some h) [] (meaning_in_use r.graph)) o.network o.hierarchy o.are.in_use;
      are = rw c.in-Some-2.is at c.in_ok-labels.ensures;
    }

pub searched-requires-clause-starts : goal.searched-requires-clause-starts
searched-requires-clause-starts g c =
    let d = c.args.self.now in
    subst (λ (ps : List ℕ). All (λ p. p < (meaning_in_use d.graph).nodes) ps) (sym c.requires.starts.are)
    (starts_within d.network.now d.hierarchy.now (meaning_in_use d.graph) c.requires.is.in_use c.requires.starts.origins c.requires.starts.within)

pub returns : goal.returns
returns g c =
    let d = c.args.self.now in
    let in_use = c.requires.is.in_use in
    let graph = meaning_in_use d.graph in
    let lawful = graphs_in_use_are_lawful d.network.now c.known.ensures (Some d.hierarchy.now) (c.known-2.ensures, c.requires.is.sound) [] graph in_use in
    record {
      graph = graph;
      in_use = in_use;
      are = all_reached graph lawful (g.L.Labels.automaton c.args.machine.now.labels) c.args.starts.now c.args.dep c.in_ok-labels-2.labels.items c.in_ok-labels-2.ensures.closed c.in_ok-labels-2.ensures.least;
    }
