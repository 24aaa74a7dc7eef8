use Rattle.plan_base.proofs.MoreWritten.{stays_so as unwritten}
use Rattle.run_steps.specs.{scene_of}
use Rattle.journey_book.proofs.RunLemmas.{change_fails, tells_all}
use Rattle.journey_book.proofs.keeping.put.Goals as goal

pub returns-in-Ok : goal.returns-in-Ok
returns-in-Ok g c shelf out = (tells_all (g.K.Keeper.meaning c.args.keeper.now), c.in-Ok.ensures.ok, unwritten out)

pub returns-in-Err : goal.returns-in-Err
returns-in-Err g c shelf out =
    let old = scene_of shelf out (g.K.Keeper.meaning c.args.keeper.now) in
    let new = scene_of shelf out (g.K.Keeper.meaning c.put.new.self) in
    rw (c.outcome_of_keeper.ensures) (change_fails old new (unwritten out, c.in-Err.ensures.same) _ _ c.in-Err.fault c.in-Err.ensures.cause)
