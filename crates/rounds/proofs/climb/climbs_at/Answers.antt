use Rattle.plan_base.proofs.Common.{◌<◌, List, length, get_or-map, length-map, sym, ap, arith}
use Rattle.sweeps.specs.{time_at}
use Rattle.rounds.specs.inside.{nodes_of_rungs, Rung}
use Rattle.rounds.proofs.ClimbLemmas.{climb_more, climb_passes}
use Rattle.rounds.proofs.climb.climbs_at.Goals.{then-ms-lt-NEVER+in_ok-push, else-ms-lt-NEVER}
use Rattle.rounds.proofs.climb.climbs_at.Goals as goal

pub loop-place-preserved : goal.loop-place-preserved
loop-place-preserved c =
    let rungs : List Rung = c.args.rungs.now in
    let nodes = nodes_of_rungs rungs in
    let delays = c.args.delays.now in
    let i = c.loop-place.place in
    let before = c.loop-place.climbs.items in
    let lt : i < length rungs = omega (arith, c.loop-place-test.true, c.loop-place.auto.place-end) in
    let within : i < length nodes = omega (arith, lt, length-map rungs (λ (rung : Rung). rung.node)) in
    record {
      are = elim c.if-ms-lt-NEVER.branch [
        | then-ms-lt-NEVER+in_ok-push w ↦ rw (w.climbs-is, w.in_ok-push.ensures.items) (climb_more nodes delays i before c.loop-place.invariant.are _ within w.if-ms-lt-NEVER.true
            (ap (λ n. record { node = n; ms = time_at delays i }) (sym (get_or-map (λ (rung : Rung). rung.node) rungs i (record { height = 0; node = 0 }) 0 lt))))
        | else-ms-lt-NEVER w ↦ rw w.climbs-is (climb_passes nodes delays i before c.loop-place.invariant.are w.if-ms-lt-NEVER.false)
      ];
    }
