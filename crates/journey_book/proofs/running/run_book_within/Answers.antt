use Rattle.plan_base.proofs.Common.{map, string_bytes, subst}
use Rattle.journey_book.specs.{book_says, BookRequest, book_request_of}
use Rattle.run_steps.specs.{scene_of}
use Rattle.journey_book.proofs.{CompleteLemmas.completes, WordLemmas.asked_once}
use Rattle.journey_book.proofs.running.run_book_within.Goals as goal

pub returns-in-Err-clause-complete : goal.returns-in-Err-clause-complete
returns-in-Err-clause-complete g c r files asks tells can reads keeps writes =
    let old = scene_of (g.F.Shelf.meaning c.args.ports.now.shelf) (g.O.Sink.meaning c.args.ports.now.out) (g.K.Keeper.meaning c.args.keeper.now) in
    let new = scene_of (g.F.Shelf.meaning c.carry_out.new.ports.shelf) (g.O.Sink.meaning c.carry_out.new.ports.out) (g.K.Keeper.meaning c.carry_out.new.keeper) in
    let same = asked_once (map string_bytes c.args.words.now) (book_request_of c.in-Some.command) r c.in-Some.ensures asks in
    completes c.args.caps.now files old new tells (record { shelf = reads; keeper = keeps; out = writes }) r can c.in-Err.outcome
    (subst (λ (q : BookRequest). book_says c.args.caps.now q old new c.in-Err.outcome) same c.in-Err.ensures)
