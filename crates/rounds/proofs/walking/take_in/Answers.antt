use Rattle.plan_base.proofs.Common.{◌∙◌, ◌≤◌, All, sym, subst, arith, take_all}
use Rattle.sweeps.specs.{time_at}
use Rattle.rounds.specs.Layers.{Gate}
use Rattle.rounds.proofs.WalkLemmas.{taken_more, fed_more}
use Rattle.rounds.proofs.walking.take_in.Goals.{then-lower_in, else-lower_in}
use Rattle.rounds.proofs.walking.take_in.Goals as goal

pub loop-gate-preserved : goal.loop-gate-preserved
loop-gate-preserved c =
    let gates = c.args.gates.now in
    let from = c.args.from.now in
    let k = c.loop-gate.gate-index in
    let d : Gate = record { crossing = 0; place = 0 } in
    record {
      lowered = taken_more gates k d c.loop-gate-test.true from c.args.walk.now c.loop-gate.walk c.lower_in.new.delays c.lower_in.ensures.lowered c.loop-gate.invariant.lowered;
      fed = fed_more gates k d c.loop-gate-test.true from c.args.walk.now c.loop-gate.walk c.lower_in.new.delays c.lower_in.ensures.lowered c.lower_in.ensures.here c.loop-gate.invariant.fed;
      same = λ off. elim c.if-lower_in.branch [
        | then-lower_in w ↦ absurd (let is = w.sooner-is in cc)
        | else-lower_in w ↦ c.lower_in.ensures.same w.if-lower_in.false ∙ c.loop-gate.invariant.same (sym w.sooner-is ∙ off)
      ];
    }

pub returns-clause-fed : goal.returns-clause-fed
returns-clause-fed c =
    let gates = c.args.gates.now in
    subst (All (λ (x : Gate). time_at c.loop-gate.walk x.place ≤ time_at c.args.from.now x.crossing)) (take_all c.loop-gate.gate-index gates (omega (arith, c.loop-gate-test.false))) c.loop-gate.invariant.fed
