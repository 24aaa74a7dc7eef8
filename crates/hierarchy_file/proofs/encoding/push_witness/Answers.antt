use Rattle.plan_base.proofs.Common.{◌≡◌, ℕ, ◌∙◌, ◌++◌, List, length, ap, subst, append_assoc, flat_map, w64, to_be_bytes}
use Rattle.hierarchy.specs.{WitnessLists}
use Rattle.hierarchy_file.specs.{node_in_bytes, witness_text}
use Rattle.hierarchy_file.proofs.encoding.push_witness.Goals as goal

joined : (out n1 n2 n3 a b c : List ℕ) → n1 ≡ out ++ a → n2 ≡ n1 ++ b → n3 ≡ n2 ++ c → n3 ≡ out ++ ((a ++ b) ++ c)
joined out n1 n2 n3 a b c first second third =
    third ∙ ap (λ o. o ++ c) (second ∙ ap (λ o. o ++ b) first ∙ append_assoc out a b) ∙ append_assoc out (a ++ b) c

pub returns-clause-text : goal.returns-clause-text
returns-clause-text c =
    let nodes = c.witness.inside.nodes.now in
    subst (λ (w : WitnessLists). c.push_nodes.new.out.items ≡ c.args.out.now.items ++ witness_text w) c.witness.view_is
    (joined c.args.out.now.items c.push_u32.new.out.items c.push_u64.new.out.items c.push_nodes.new.out.items (node_in_bytes c.witness.inside.below) (to_be_bytes w64 (length nodes)) (flat_map node_in_bytes nodes)
    c.in_ok-push_u32.ensures c.in_ok-push_u64.ensures c.in_ok-push_nodes.ensures)
