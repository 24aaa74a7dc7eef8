use Rattle.plan_base.proofs.Common.{◌≡◌, ℕ, ◌+◌, ◌-◌, slice_index, vec_len}
use Rattle.product_search.proofs.frontier.grow.Given as goal

abbrev pub invariant-grow : goal.invariant-grow
invariant-grow l = (v : ℕ) → slice_index l.first.items v ≡ slice_index l.initial.first.items v

abbrev pub decreases-grow : goal.decreases-grow
decreases-grow l = l.chain + 1 - vec_len l.first
