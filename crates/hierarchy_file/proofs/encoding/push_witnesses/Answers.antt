use Rattle.plan_base.proofs.Common.{◌≡◌, ◌++◌, ◌∷◌, [], ◌∙◌, ◌<◌, ◌^◌, ◌+◌, length, ap, arith, subst, sym, take, flat_map, take_more, flat_map_more, All-more}
use Rattle.hierarchy.specs.{WitnessLists}
use Rattle.hierarchy_file.specs.{witness_text}
use Rattle.hierarchy_file.proofs.encoding.push_witnesses.Goals as goal

pub loop-place-preserved : goal.loop-place-preserved
loop-place-preserved c =
    let all = c.args.witnesses.now in
    let i = c.loop-place.place in
    let x = c.get.result in
    let lt : i < length all = omega (arith, c.len-place-end.ensures, c.loop-place-test.true) in
    let more : take i all ++ x ∷ [] ≡ take (i + 1) all = ap (λ y. take i all ++ y ∷ []) (sym (c.get.ensures x)) ∙ sym (take_more all i x lt) in
    record {
      text = c.in_ok-push_witness.ensures.text ∙ ap (λ o. o ++ witness_text x) c.loop-place.invariant.text
          ∙ flat_map_more witness_text c.args.out.now.items (take i all) x ∙ ap (λ xs. c.args.out.now.items ++ flat_map witness_text xs) more;
      fit = All-more (λ (witness : WitnessLists). length witness.nodes < 2 ^ 64) all i x lt c.loop-place.invariant.fit
          (subst (λ (w : WitnessLists). length w.nodes < 2 ^ 64) (sym (c.get.ensures x)) c.in_ok-push_witness.ensures.fit);
    }
