use Rattle.plan_base.proofs.Common.{◌≡◌, length, ap, sym, ◌∙◌, subst}
use Rattle.certificate.specs.{KnownStep, LeadsTo, IsKnownStep, declared.state_sets.StateSets.StateSets}
use Rattle.certificate.proofs.StateLemmas.{after_more}
use Rattle.certificate.proofs.state_sets.StateSets.read.Goals as goal

pub returns-then-knows : goal.returns-then-knows
returns-then-knows g c = λ letters after.
    let l = g.L.Labels.automaton c.args.labels.now in
    let old = c.args.self.now in
    let letter = c.args.letter in
    let step = c.index.result.now in
    let new : StateSets = record { reached = c.copy_from_slice.new.self; next = old.next; known = old.known } in
    let known : IsKnownStep l letter step = subst (IsKnownStep l letter) (sym c.index.ensures) (after.known letter step (c.knows.ensures.there c.if-knows.true)) in
    let before : step.before.items ≡ old.reached.items = ap (λ (s : KnownStep). s.before.items) c.index.ensures ∙ c.knows.ensures.same step c.if-knows.true in
    let items : new.reached.items ≡ step.after.items = c.copy_from_slice.ensures.items ∙ c.deref.ensures.value in
    after_more l letters letter old new after (ap length items ∙ known.after) after.room
    (subst (λ set. LeadsTo l set letter new.reached.items) before (subst (LeadsTo l step.before.items letter) (sym items) known.leads)) after.known
