use Rattle.plan_base.proofs.Common.{◌<◌, length, subst, arith, None, All, take_all, All-more, All-weaker}
use Rattle.hierarchy.specs.{Entry, AreEndsBelow}
use Rattle.hierarchy.proofs.heights.past_entries.Goals as goal

abbrev nowhere : Entry
nowhere = record { from = 0; to = 0; weight = 0; via = None }

pub loop-entry-preserved : goal.loop-entry-preserved
loop-entry-preserved c =
    let there : c.loop-entry.entry-index < length c.args.entries.now = c.loop-entry-test.true in
    let fits = c.requires.fit c.loop-entry.entry-index nowhere there in
    let first = c.max.ensures in
    let second = c.max-past.ensures in
    record {
      few = omega (arith, first, second, fits.from, fits.to);
      least = omega (arith, first, second);
      past = All-more (AreEndsBelow c.max-past.result) c.args.entries.now c.loop-entry.entry-index nowhere there
          (All-weaker (AreEndsBelow c.loop-entry.past) (AreEndsBelow c.max-past.result) (λ e h. (omega (arith, first, second, h.0), omega (arith, first, second, h.1))) _ c.loop-entry.invariant.past)
          (omega (arith, first, second), omega (arith, first, second));
    }

pub returns-clause-past : goal.returns-clause-past
returns-clause-past c =
    subst (λ entries. All (AreEndsBelow c.loop-entry.past) entries) (take_all c.loop-entry.entry-index c.args.entries.now c.loop-entry-test.false) c.loop-entry.invariant.past
