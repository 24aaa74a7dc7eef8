use Rattle.plan_base.proofs.Common.{◌∙◌, subst}
use Rattle.search_laws.specs.{letter_count, Move}
use Rattle.product_search.specs.inside.{AreTargetsWith}
use Rattle.product_search.proofs.{LetterLemmas.letters_more, LetterLemmas.leaving_more, MoveLemmas.targets_with}
use Rattle.product_search.proofs.moves.StateMoves.add.Goals as goal

pub returns : goal.returns
returns g c =
    let l = g.L.Labels.automaton c.args.labels.now in
    let old = c.args.self.now in
    let before = c.requires.before in
    let step = c.move_at-step.ensures in
    let with_it = subst (λ (m : Move). AreTargetsWith m letter_count old.targets.items c.add_target.new.targets.items) step c.in_ok-add_target.ensures in
    record {
      letters = rw step (letters_more l c.args.state c.args.place old.letters before.letters);
      leaving = leaving_more l c.args.state c.args.place old.leaving c.letters_leaving.result before.leaving (rw step at c.letters_leaving.ensures);
      one_each = with_it.one_each ∙ before.one_each;
      targets = λ letter low. targets_with l c.args.state letter c.args.place old.targets.items c.add_target.new.targets.items with_it low (before.targets letter low);
    }
