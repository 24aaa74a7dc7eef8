use Rattle.plan_base.proofs.Common.{◌∙◌, ◌++◌, List, ℕ, ap}
use Rattle.plain_texts.specs.{with_feed}
use Rattle.journey.specs.{word_text}
use Rattle.journey.proofs.PrintLemmas.{adds_journey}
use Rattle.journey.proofs.printing.push_steps.Goals as goal

pub returns : goal.returns
returns c =
    let arrived = c.push_clock_line.new.out.items in
    let worded = c.push_word.new.out.items in
    adds_journey c.args.network.now c.args.start c.args.at c.args.steps.now c.in_ok-told.told c.args.out.now.items
    arrived worded c.push_place_line.new.out.items _ c.in_ok-told.ensures
    c.in_ok-push_clock_line.ensures
    (c.in_ok-push_word.ensures ∙ ap (λ (w : List ℕ). arrived ++ with_feed (word_text w)) c.deref.ensures.value)
    c.in_ok-push_place_line.ensures
    (c.in_ok-extend_from_slice.ensures.items ∙ ap (λ (l : List ℕ). c.push_place_line.new.out.items ++ l) c.deref-2.ensures.value)
