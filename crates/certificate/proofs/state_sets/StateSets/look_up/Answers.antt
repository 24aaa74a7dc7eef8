use Rattle.plan_base.proofs.Common.{◌≡◌, length, ap, sym, ◌∙◌, subst, arith, with_items_is}
use Rattle.std.specs.Vec.{with_items}
use Rattle.certificate.specs.{declared.state_sets.StateSets.StateSets, LeadsTo, AreKnown}
use Rattle.certificate.proofs.StateLemmas.{after_more, known_more}
use Rattle.certificate.proofs.state_sets.StateSets.look_up.Goals as goal

pub returns : goal.returns
returns g c = λ letters after.
    let l = g.L.Labels.automaton c.args.labels.now in
    let old = c.args.self.now in
    let new : StateSets = record { reached = c.swap.new.x; next = c.swap.new.y; known = with_items old.known c.keep_step.new.known } in
    let set = c.follow.new.set in
    let full : length set ≡ old.next.len = omega (arith, old.next.ok.0) in
    let filled : new.reached.items ≡ set = ap (λ v. v.items) c.swap.ensures.x_after ∙ with_items_is old.next set full in
    let leads : LeadsTo l old.reached.items c.args.letter set = rw c.deref.ensures.value at c.follow.ensures in
    let room : length set ≡ l.states = omega (arith, after.room) in
    let kept = rw (c.deref-2.ensures.value, c.deref-3.ensures.value, c.deref_mut-2.ensures.value, with_items_is old.next set full) at c.keep_step.ensures.each in
    let many : length c.keep_step.new.known ≡ length old.known.items = rw c.deref_mut-2.ensures.value at c.keep_step.ensures.length in
    let known : AreKnown l c.keep_step.new.known = known_more l old.known.items c.keep_step.new.known c.args.letter old.reached.items set after.known after.size room leads many kept in
    after_more l letters c.args.letter old new after (ap length filled ∙ room) (ap (λ v. length v.items) c.swap.ensures.y_after ∙ after.size)
    (subst (LeadsTo l old.reached.items c.args.letter) (sym filled) leads)
    (subst (AreKnown l) (sym (with_items_is old.known c.keep_step.new.known (omega (arith, many, old.known.ok.0)))) known)
