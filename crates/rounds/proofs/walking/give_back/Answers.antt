use Rattle.plan_base.proofs.Common.{◌∙◌, ◌≤◌, All, sym, subst, arith, take_all}
use Rattle.sweeps.specs.{time_at}
use Rattle.rounds.specs.Layers.{Gate}
use Rattle.rounds.specs.inside.{cell}
use Rattle.rounds.proofs.WalkLemmas.{given_more, returned_more}
use Rattle.rounds.proofs.walking.give_back.Goals.{then-lower, else-lower}
use Rattle.rounds.proofs.walking.give_back.Goals as goal

pub loop-gate-preserved : goal.loop-gate-preserved
loop-gate-preserved c =
    let gates = c.args.gates.now in
    let walk = c.args.walk.now in
    let before = c.args.crossings.now.items in
    let now = c.loop-gate.crossings.items in
    let next = c.lower.new.rows.items in
    let k = c.loop-gate.gate-index in
    let d : Gate = record { crossing = 0; place = 0 } in
    record {
      lowered = given_more gates k d c.loop-gate-test.true c.args.state walk before now next c.lower.ensures.lowered c.loop-gate.invariant.lowered;
      returned = returned_more gates k d c.loop-gate-test.true c.args.state walk before now next c.lower.ensures.lowered c.lower.ensures.here c.loop-gate.invariant.returned;
      same = λ off. elim c.if-lower.branch [
        | then-lower w ↦ absurd (let is = w.sooner-is in cc)
        | else-lower w ↦ c.lower.ensures.same w.if-lower.false ∙ c.loop-gate.invariant.same (sym w.sooner-is ∙ off)
      ];
    }

pub returns-clause-returned : goal.returns-clause-returned
returns-clause-returned c =
    let gates = c.args.gates.now in
    subst (All (λ (x : Gate). cell c.loop-gate.crossings.items c.args.state x.crossing ≤ time_at c.args.walk.now x.place)) (take_all c.loop-gate.gate-index gates (omega (arith, c.loop-gate-test.false))) c.loop-gate.invariant.returned
