use Rattle.plan_base.proofs.Common.{◌∙◌, [], sym, subst, arith, get_or_default}
use Rattle.product_search.specs.inside.{AreMoves, AreTargets}
use Rattle.product_search.proofs.MoveLemmas.{targets_are}
use Rattle.product_search.proofs.machine.Machine.targets_of.Goals as goal

pub returns : goal.returns
returns g c =
    let l = g.L.Labels.automaton c.args.self.now.labels in
    let q = c.args.state in
    let letter = c.args.letter in
    let moves = c.index.result.now in
    let are : AreMoves l q moves = subst (AreMoves l q) (sym c.index.ensures) (c.args.self.now.tabled.are q moves c.requires.state) in
    let last = get_or_default moves.targets.items letter c.index-2.result.now [] (omega (arith, are.one_each)) in
    let items = c.as_slice.ensures ∙ c.index-2.ensures ∙ last ∙ are.targets letter c.requires.letter in
    subst (AreTargets l q letter) (sym items) (targets_are l q letter)
