use Rattle.plan_base.proofs.Common.{◌≡◌, ℕ, ◌+◌, ◌-◌, ◌∙◌, ◌++◌, ◌∷◌, [], None, Some, ap, sym, rules}
use Rattle.hierarchy_file.specs.{many_ascending, next_node, node_at}
use Rattle.file_records.proofs.RowLaws.{with_front}
use Rattle.hierarchy_file.proofs.LoopLemmas.{goes_on, halts, is_done, any_before}
use Rattle.hierarchy_file.proofs.records.read_nodes.Goals as goal

pub returns-in_default : goal.returns-in_default
returns-in_default c =
    let unread : node_at c.loop.rest.now ≡ None = search rules in
    halts next_node (λ (v : ℕ). v) c.loop.nodes.items c.args.count c.loop.counter None c.loop.rest.now (many_ascending next_node (λ (v : ℕ). v) c.args.count None c.args.bytes.now) c.loop-test.true unread c.loop.invariant

pub loop-preserved : goal.loop-preserved
loop-preserved c =
    let read : node_at c.loop.rest.now ≡ Some (c.in-Some.node, c.in-Some.after.now) = search rules in
    let front = c.loop.nodes.items ++ c.in-Some.node ∷ [] in
    let next = goes_on next_node (λ (v : ℕ). v) c.loop.nodes.items c.args.count c.loop.counter None c.loop.rest.now c.in-Some.node c.in-Some.after.now
    (many_ascending next_node (λ (v : ℕ). v) c.args.count None c.args.bytes.now) c.loop-test.true read c.loop.invariant in
    rw c.in_ok-push.ensures.items
    (ap (with_front front) (sym (any_before (c.args.count - (c.loop.counter + 1)) (Some c.in-Some.node) c.in-Some.after.now)) ∙ next)

pub returns : goal.returns
returns c =
    is_done next_node (λ (v : ℕ). v) c.loop.nodes.items c.args.count c.loop.counter None c.loop.rest.now (many_ascending next_node (λ (v : ℕ). v) c.args.count None c.args.bytes.now) c.loop-test.false c.loop.invariant
