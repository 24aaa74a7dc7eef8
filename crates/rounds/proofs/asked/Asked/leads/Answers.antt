use Rattle.plan_base.proofs.Common.{nat_eq, subst, Contains, All-contains}
use Rattle.std.proofs.lemmas.Bool.Decides.{Decides-eqb}
use Rattle.std.proofs.lemmas.List.Elements.{contains_decides, Decides-contains}
use Rattle.search_laws.specs.{HasMove}
use Rattle.rounds.proofs.asked.Asked.leads.Goals as goal

pub returns : goal.returns
returns g c =
    let l = g.L.Labels.automaton c.args.self.now.machine.now.labels in
    let targets = c.targets_of.result.now in
    let to = c.args.to in
    let decides = Decides-contains targets to c.contains.result (contains_decides nat_eq Decides-eqb targets to c.contains.result c.contains.ensures.cases) in (
      λ yes. All-contains (HasMove l c.args.from c.args.letter) targets to c.targets_of.ensures.are (decides.0 yes),
      λ (i, move). decides.1 (subst (Contains targets) move.to (c.targets_of.ensures.each i move.place move.letter)),
    )
