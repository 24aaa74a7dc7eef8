use Rattle.plan_base.proofs.Common.{◌≡◌, ◌-◌, vec_len}
use Rattle.product_search.specs.inside.{AreReached}
use Rattle.product_search.proofs.targets.Noted.pass.Given as goal

abbrev pub invariant-pass : goal.invariant-pass
invariant-pass l = record {
  reached : AreReached l.targets.nodes.items l.targets.places.items l.self.times.items l.self.passed;
  same : l.self.times.items ≡ l.fn.self.times.items;
  latest : l.self.latest ≡ l.fn.self.latest;
}

abbrev pub decreases-pass : goal.decreases-pass
decreases-pass l = vec_len l.targets.nodes - l.self.passed
