-- Words ask for one thing, and a run is what is said of that.
use Rattle.plan_base.proofs.Common.{inl, inr, sym, ◌∙◌, subst, same_Some}
use Rattle.command_words.specs.{Request}
use Rattle.planner_core.specs.{says}
use Rattle.promises.specs.{RunsAreAsAsked, WordsAskOneThing}

pub words_ask_one_thing : WordsAskOneThing
words_ask_one_thing words one other p q = same_Some one other (sym p.asks ∙ q.asks)

pub runs_are_as_asked : RunsAreAsAsked
runs_are_as_asked caps words r asks old new outcome (inl (refused, ends)) = absurd (refused r asks)
runs_are_as_asked caps words r asks old new outcome (inr (inl ends)) = inl ends
runs_are_as_asked caps words r asks old new outcome (inr (inr (other, also, said))) =
    inr (subst (λ (x : Request). says caps x old new outcome) (words_ask_one_thing words other r also asks) said)
