use Rattle.plan_base.proofs.Common.{◌≡◌, ◌∙◌, List, ap, map, string_bytes, subst, sym}
use Rattle.plain_texts.specs.{lines_text}
use Rattle.run_steps.specs.{scene_of}
use Rattle.journey_book.specs.{IsListing, ThenDone, BookWrites, BookOutcome}
use Rattle.journey_book.proofs.RunLemmas.{text_written}
use Rattle.journey_book.proofs.showing.list.Goals as goal

pub returns : goal.returns
returns g c shelf =
    let before = g.K.Keeper.meaning c.args.keeper.now in
    let after = g.K.Keeper.meaning c.names.new.self in
    let old = scene_of shelf (g.O.Sink.meaning c.args.out.now) before in
    let new = scene_of shelf (g.O.Sink.meaning c.write_text.new.out) after in
    let names = map string_bytes c.in-Ok.names.items in
    let text : c.deref-2.result.now ≡ lines_text names =
    c.deref-2.ensures.value ∙ c.in_ok-text.ensures ∙ ap (λ (ns : List _). lines_text (map string_bytes ns)) c.deref.ensures.value in
    subst (λ (o : BookOutcome). BookWrites (ThenDone (IsListing before)) old new o) (sym c.ended.ensures)
    (text_written old new c.in-Ok.ensures.same (IsListing before) c.deref-2.result.now (names, c.in-Ok.ensures.ok, text) c.write_text.result c.write_text.ensures.ok c.write_text.ensures.err)
