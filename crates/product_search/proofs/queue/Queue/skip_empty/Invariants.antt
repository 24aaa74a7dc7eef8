use Rattle.plan_base.proofs.Common.{◌≡◌, ◌-◌, vec_len}
use Rattle.product_search.specs.inside.{IsQueue, Moves}
use Rattle.product_search.proofs.queue.Queue.skip_empty.Given as goal

abbrev pub invariant-empty : goal.invariant-empty
invariant-empty l = record {
  right : IsQueue l.self;
  moves : Moves l.fn.self l.self;
  start : l.self.start ≡ l.fn.self.start;
}

abbrev pub decreases-empty : goal.decreases-empty
decreases-empty l = vec_len l.self.buckets - l.self.turn
