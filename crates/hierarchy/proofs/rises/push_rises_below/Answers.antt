use Rattle.plan_base.proofs.Common.{◌≡◌, ◌≤◌, ◌++◌, ◌∷◌, [], ◌∙◌, cond, true, false, ap, arith, sym, subst, append-nil, get_or_default}
use Rattle.hierarchy.specs.{Entry, entry_at, from_of, no_entry, places_before, is_rise}
use Rattle.mode_network.proofs.KeyLemmas.{below_stands_before, first_place}
use Rattle.hierarchy.proofs.{PlaceLemmas.places_more, rises.push_rises_below.Goals.then-is_rise+in_ok-push, rises.push_rises_below.Goals.else-is_rise}
use Rattle.hierarchy.proofs.rises.push_rises_below.Goals as goal

pub loop-place-preserved : goal.loop-place-preserved
loop-place-preserved c =
    let order = c.args.heights.now.order.now in
    let entries = c.args.entries.now in
    let n = c.loop-place.place in
    let so_far = places_before (is_rise order) entries n in
    let before = below_stands_before from_of entries c.requires.rising c.args.v n no_entry c.loop-place-test.true c.if-entries-place.true in
    elim c.if-is_rise.branch [
      | then-is_rise+in_ok-push w ↦ (
          let up : is_rise order (entry_at entries n) ≡ true = sym c.is_rise.ensures ∙ w.if-is_rise.true in
          let more = places_more (is_rise order) entries n ∙ ap (λ b. so_far ++ cond b (n ∷ []) []) up in
          record {
            place = omega arith;
            rises = ap (λ rises. rises.items) w.rises-is ∙ w.in_ok-push.ensures.items ∙ ap (λ rises. rises ++ n ∷ []) c.loop-place.invariant.rises ∙ sym more;
          }
          )
      | else-is_rise w ↦ (
          let level : is_rise order (entry_at entries n) ≡ false = sym c.is_rise.ensures ∙ w.if-is_rise.false in
          let more = places_more (is_rise order) entries n ∙ ap (λ b. so_far ++ cond b (n ∷ []) []) level ∙ append-nil so_far in
          record {
            place = omega arith;
            rises = ap (λ rises. rises.items) w.rises-is ∙ c.loop-place.invariant.rises ∙ sym more;
          }
          )
    ]

pub returns-else-entries-place-clause-place : goal.returns-else-entries-place-clause-place
returns-else-entries-place-clause-place c =
    first_place from_of c.args.entries.now c.requires.rising c.args.v c.loop-place.place c.loop-place.invariant.place
    (λ d lt. subst (λ (e : Entry). c.args.v ≤ e.from) (get_or_default c.args.entries.now c.loop-place.place no_entry d lt) c.if-entries-place.false)
