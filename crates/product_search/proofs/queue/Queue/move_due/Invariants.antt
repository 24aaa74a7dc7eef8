use Rattle.plan_base.proofs.Common.{◌≡◌, ◌-◌, vec_len, AllWithin}
use Rattle.product_search.specs.inside.{AreBuckets, IsPast, Moves}
use Rattle.product_search.proofs.queue.Queue.move_due.Given as goal

abbrev pub invariant-due : goal.invariant-due
invariant-due l = record {
  right : AreBuckets l.self;
  moves : Moves l.fn.self l.self;
  start : l.self.start ≡ l.fn.self.start;
  past : AllWithin (IsPast l.self) l.self.later.items 0 l.i;
}

abbrev pub decreases-due : goal.decreases-due
decreases-due l = vec_len l.self.later - l.i
