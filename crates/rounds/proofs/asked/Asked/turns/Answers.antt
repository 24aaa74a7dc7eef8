use Rattle.plan_base.proofs.Common.{◌<◌, refl, arith}
use Rattle.rounds.proofs.TurnLemmas.{no_turns, turn_more, turn_passes, turns_on, turns_all}
use Rattle.rounds.proofs.asked.Asked.turns.Goals.{then-leads+in_ok-sources+in_ok-push, else-leads}
use Rattle.rounds.proofs.asked.Asked.turns.Goals as goal

pub loop-state-init : goal.loop-state-init
loop-state-init g c = record { are = rw c.new-turns.ensures.items (no_turns (g.L.Labels.automaton c.args.self.now.machine.now.labels)) }

pub loop-letter-preserved : goal.loop-letter-preserved
loop-letter-preserved g c =
    let l = g.L.Labels.automaton c.args.self.now.machine.now.labels in
    let state = c.loop-state.state in
    let letter = c.loop-letter.letter in
    let before = c.loop-letter.turns.items in
    let below = c.loop-letter.invariant.are in
    let within : state < l.states = omega (arith, c.loop-state-test.true, c.states-state-end.ensures) in
    record {
      are = elim c.if-leads.branch [
        | then-leads+in_ok-sources+in_ok-push w ↦ (let sources = w.in_ok-sources.ensures in
            rw (w.turns-is, w.in_ok-push.ensures.items)
            (turn_more l state letter before below _ refl refl c.loop-letter-test.true within (c.leads.ensures.0 w.if-leads.true) (record { are = sources.are; all = sources.all })))
        | else-leads w ↦ rw w.turns-is (turn_passes l state letter before below (g.met.L.RoadLabels.road_law c.args.self.now.machine.now.labels)
            (λ move. (let yes = c.leads.ensures.1 move in let no = w.if-leads.false in cc)))
      ];
    }

pub loop-state-preserved : goal.loop-state-preserved
loop-state-preserved g c = record {
  are = turns_on (g.L.Labels.automaton c.args.self.now.machine.now.labels) c.loop-state.state c.loop-letter.letter c.loop-letter.turns.items (omega (arith, c.loop-letter-test.false)) c.loop-letter.invariant.are;
}

pub returns : goal.returns
returns g c =
    let machine = c.args.self.now.machine.now in
    turns_all (g.L.Labels.automaton machine.labels) (g.met.L.Labels.lawful machine.labels) c.loop-state.state c.loop-state.turns.items (omega (arith, c.loop-state-test.false, c.states-state-end.ensures))
    c.loop-state.invariant.are
