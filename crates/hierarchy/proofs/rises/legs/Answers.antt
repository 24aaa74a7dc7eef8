use Rattle.plan_base.proofs.Common.{◌≡◌, ◌++◌, ◌∷◌, [], ◌∙◌, ◌*◌, ◌&&◌, cond, true, false, ap, arith, get_or, map, sym, take, list_all, le-ltb, lt-ltb, get_or-map, length-map, map-append, take_more}
use Rattle.std.proofs.lemmas.List.Folds.{list_all_at, list_all_more}
use Rattle.search_laws.specs.{Leg}
use Rattle.hierarchy.specs.{entry_at, Rise, is_short, leg_of, rise_at, rises_at}
use Rattle.hierarchy.proofs.rises.legs.Goals as goal

pub returns-in_default : goal.returns-in_default
returns-in_default c =
    let rises = rises_at c.args.entries.now c.args.rises.now in
    let place = get_or c.args.rises.now c.loop-place.place-index 0 in
    let rise : Rise = rise_at place (entry_at c.args.entries.now place) in
    let is : get_or rises c.loop-place.place-index rise ≡ rise = get_or-map (λ place. rise_at place (entry_at c.args.entries.now place)) c.args.rises.now c.loop-place.place-index 0 rise c.loop-place-test.true in
    let long : is_short rise ≡ false = le-ltb _ _ (omega (arith, c.in_default.ensures)) in
    let none : list_all is_short rises ≡ false = list_all_at is_short rises c.loop-place.place-index rise (omega (arith, c.loop-place-test.true, length-map c.args.rises.now (λ place. rise_at place (entry_at c.args.entries.now place)))) (ap is_short is ∙ long) in
    c.new.ensures.items ∙ sym (ap (λ b. cond b (map leg_of rises) []) none)

pub loop-place-preserved : goal.loop-place-preserved
loop-place-preserved c =
    let i = c.loop-place.place-index in
    let rises = rises_at c.args.entries.now c.args.rises.now in
    let place = get_or c.args.rises.now i 0 in
    let rise : Rise = rise_at place (entry_at c.args.entries.now place) in
    let is : get_or rises i rise ≡ rise = get_or-map (λ place. rise_at place (entry_at c.args.entries.now place)) c.args.rises.now i 0 rise c.loop-place-test.true in
    let short : is_short rise ≡ true = lt-ltb _ _ c.in-Ok.ensures.0 in
    let leg : Leg = record { to = 2 * (entry_at c.args.entries.now place).to; ms = c.in-Ok.ms } in
    let same : leg ≡ leg_of rise = ap (λ ms. record { to = 2 * (entry_at c.args.entries.now place).to; ms = ms }) c.in-Ok.ensures.1 in
    record {
      short = list_all_more is_short rises i rise (omega (arith, c.loop-place-test.true, length-map c.args.rises.now (λ place. rise_at place (entry_at c.args.entries.now place)))) ∙ ap (λ b. b && is_short (get_or rises i rise)) c.loop-place.invariant.short ∙ ap is_short is ∙ short;
      legs = c.in_ok-push.ensures.items ∙ ap (λ legs. legs ++ leg ∷ []) c.loop-place.invariant.legs ∙ ap (λ last. map leg_of (take i rises) ++ last ∷ []) same
          ∙ sym (ap (map leg_of) (take_more rises i rise (omega (arith, c.loop-place-test.true, length-map c.args.rises.now (λ place. rise_at place (entry_at c.args.entries.now place)))) ∙ ap (λ r. take i rises ++ r ∷ []) is) ∙ map-append leg_of (take i rises) (rise ∷ []));
    }
