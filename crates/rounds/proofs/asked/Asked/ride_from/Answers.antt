use Rattle.std.proofs.lemmas.{Slice.Eq.slice_eq-Decides, Bool.Decides.Decides-eqb}
use Rattle.plan_base.proofs.Common.{◌≡◌, ℕ, List, sym, subst, arith, slice_get_within, or_parts}
use Rattle.rounds.specs.{Line}
use Rattle.rounds.specs.inside.{asked_of, IsLineOf, IsRiddenAlong}
use Rattle.rounds.proofs.{RowLemmas.lowered_same, VisitLemmas.IsAny, VisitLemmas.taken_then, RideLemmas.along_stays, RideLemmas.none_sooner, RideLemmas.pattern_more}
use Rattle.rounds.proofs.asked.Asked.ride_from.Goals.{then-is_sooner+in_ok-ridden+in-Some, else-is_sooner}
use Rattle.rounds.proofs.asked.Asked.ride_from.Goals as goal

pub loop-pattern-preserved : goal.loop-pattern-preserved
loop-pattern-preserved g c =
    let a = asked_of {l = g.L.Labels} c.args.self.now in
    let q = c.args.state in
    let p = c.loop-pattern.pattern in
    let first = c.args.rows.now.items in
    let old = c.loop-pattern.rows.items in
    let delays = c.args.delays.now in
    let earlier = c.args.before.now in
    let before = c.loop-pattern.invariant in
    elim c.if-is_sooner.branch [
      | then-is_sooner+in_ok-ridden+in-Some w ↦ (let new = w.ride_along.new.rows.items in
          let done = rw w.in-Some.is at w.in_ok-ridden.ensures in
          record {
            taken = rw (w.rows-is, w.changed-is) (taken_then a first old new c.loop-pattern.changed w.in-Some.ridden _ (or_parts c.loop-pattern.changed w.in-Some.ridden) before.taken done.taken);
            ridden = rw w.rows-is (pattern_more a old new q p delays done.taken.lowered before.ridden done.ridden);
          })
      | else-is_sooner w ↦ record {
        taken = rw (w.rows-is, w.changed-is) before.taken;
        ridden = rw w.rows-is (pattern_more a old old q p delays (lowered_same IsAny old) before.ridden
            (λ line is. none_sooner a old q p line.crossings.items delays earlier (λ board r move lt may. c.is_sooner.ensures w.if-is_sooner.false line board r is move lt may)
            (along_stays a IsAny first old before.taken.lowered q p line.crossings.items earlier (c.requires.ridden p line is))));
      }
    ]

pub returns-clause-ridden : goal.returns-clause-ridden
returns-clause-ridden g c =
    λ p line is. c.loop-pattern.invariant.ridden p line
    (omega (arith, slice_get_within c.args.self.now.rounds.now.lines.items p line is, c.requires.is.lines.each, c.patterns-pattern-end.ensures, c.loop-pattern-test.false)) is

pub returns-then-eq-clause-ridden : goal.returns-then-eq-clause-ridden
returns-then-eq-clause-ridden g c =
    let a = asked_of {l = g.L.Labels} c.args.self.now in
    let is = (slice_eq-Decides Decides-eqb c.args.delays.now c.args.before.now c.eq.result c.eq.ensures).0 c.if-eq.true in
    subst (λ (xs : List ℕ). (p : ℕ) (line : Line) → IsLineOf a p line → IsRiddenAlong a c.args.rows.now.items c.args.state p line.crossings.items xs) (sym is) c.requires.ridden
