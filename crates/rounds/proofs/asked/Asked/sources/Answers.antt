use Rattle.plan_base.proofs.Common.{◌<◌, sym, subst, arith}
use Rattle.rounds.proofs.TurnLemmas.{AreSourcesBelow, no_sources, source_more, source_passes}
use Rattle.rounds.proofs.asked.Asked.sources.Goals.{then-leads+in_ok-push, else-leads}
use Rattle.rounds.proofs.asked.Asked.sources.Goals as goal

pub loop-source-init : goal.loop-source-init
loop-source-init g c =
    let l = g.L.Labels.automaton c.args.self.now.machine.now.labels in
    record { are = subst (AreSourcesBelow l c.args.letter c.args.state 0) (sym c.new-sources.ensures.items) (no_sources l c.args.letter c.args.state) }

pub loop-source-preserved : goal.loop-source-preserved
loop-source-preserved g c =
    let l = g.L.Labels.automaton c.args.self.now.machine.now.labels in
    let letter = c.args.letter in
    let state = c.args.state in
    let source = c.loop-source.source in
    let before = c.loop-source.sources.items in
    let within : source < l.states = omega (arith, c.loop-source-test.true, c.states-source-end.ensures) in
    record {
      are = elim c.if-leads.branch [
        | then-leads+in_ok-push w ↦ rw (w.sources-is, w.in_ok-push.ensures.items) (source_more l letter state source before c.loop-source.invariant.are within (c.leads.ensures.0 w.if-leads.true))
        | else-leads w ↦ rw w.sources-is (source_passes l letter state source before c.loop-source.invariant.are (λ move. (let yes = c.leads.ensures.1 move in let no = w.if-leads.false in cc)))
      ];
    }

pub returns-clause-are : goal.returns-clause-are
returns-clause-are g c = c.loop-source.invariant.are.are

pub returns-clause-all : goal.returns-clause-all
returns-clause-all g c = λ q lt. c.loop-source.invariant.are.all q (omega (arith, lt, c.loop-source-test.false, c.states-source-end.ensures))
