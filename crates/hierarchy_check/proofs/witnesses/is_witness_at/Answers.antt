use Rattle.plan_base.proofs.Common.{◌≡◌, ◌∙◌, ℕ, List, ap, arith, rules, subst, sym, Contains}
use Rattle.hierarchy.specs.{WitnessLists, first_of, last_of}
use Rattle.hierarchy_check.proofs.witnesses.is_witness_at.Goals as goal

pub is_light-requires : goal.is_light-requires
is_light-requires c =
    let w = c.get-witness.result in
    let found : c.key.result ≡ (c.args.x, c.args.u, c.args.v) = search rules in
    let key : (w.below, first_of w.nodes, last_of w.nodes) ≡ (c.args.x, c.args.u, c.args.v) = sym c.key.ensures ∙ found in
    record {
      listed = subst (λ (ws : List WitnessLists). Contains ws w) c.witnesses-witnesses.ensures (c.args.place, (omega (arith, c.if-place-len.false, c.len.ensures)), c.get-witness.ensures w);
      below_is = ap (λ (k : ℕ × ℕ × ℕ). k.0) key;
      first_is = ap (λ (k : ℕ × ℕ × ℕ). k.1) key;
      last_is = ap (λ (k : ℕ × ℕ × ℕ). k.2) key;
    }
