use Rattle.plan_base.proofs.Common.{◌≡◌, ℕ, List, Option, Some, inr, option_map, subst, sym, Vec, Global}
use Rattle.run_steps.specs.{scene_of}
use Rattle.journey_book.specs.{Tells, ThenDone, BookWrites, BookOutcome}
use Rattle.journey_book.proofs.RunLemmas.{text_written}
use Rattle.journey_book.proofs.showing.show.Goals as goal

pub returns-in-Ok-Some : goal.returns-in-Ok-Some
returns-in-Ok-Some g c shelf =
    let name = c.args.name.now in
    let before = g.K.Keeper.meaning c.args.keeper.now in
    let old = scene_of shelf (g.O.Sink.meaning c.args.out.now) before in
    let new = scene_of shelf (g.O.Sink.meaning c.write_text.new.out) (g.K.Keeper.meaning c.get.new.self) in
    let told =
    subst (λ (held : Option (Vec ℕ Global)). Tells before (λ book. book name ≡ option_map (λ body. body.items) held)) c.in-Ok-Some.field-0-is c.in-Ok-Some.ensures.ok in
    let is = subst (λ (text : List ℕ). Tells before (λ book. book name ≡ Some text)) (sym c.deref.ensures.value) told in
    inr (subst (λ (end : BookOutcome). BookWrites (ThenDone (λ text. Tells before (λ book. book name ≡ Some text))) old new end) (sym c.ended.ensures)
    (text_written old new c.in-Ok-Some.ensures.same (λ text. Tells before (λ book. book name ≡ Some text)) c.deref.result.now is c.write_text.result c.write_text.ensures.ok c.write_text.ensures.err))
