use Rattle.plan_base.proofs.Common.{◌∙◌, List, ℕ, sym, subst, with_items_is}
use Rattle.sweeps.specs.{LeadsDown, HasRoom, AreWalked}
use Rattle.descents.specs.inside.{AreSwept}
use Rattle.descents.proofs.descents.Descents.swept.Goals as goal

pub returns-then-has_room : goal.returns-then-has_room
returns-then-has_room c =
    let slope = c.args.self.now.slope in
    let after = c.sweep_down.new.times in
    let walked = subst (λ (xs : List ℕ). AreWalked (LeadsDown slope) xs after) c.deref_mut.ensures.value c.sweep_down.ensures.walked in
    let same = with_items_is c.args.delays after (walked.as_many ∙ sym c.args.delays.ok.0) in
    subst (AreSwept slope c.args.delays.items) (sym same) (record {
      walked = walked;
      closed = c.sweep_down.ensures.closed;
      room = subst (HasRoom slope) (c.deref.ensures.value ∙ same) (c.has_room.ensures c.if-has_room.true);
    })
