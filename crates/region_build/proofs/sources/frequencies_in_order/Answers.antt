use Rattle.plan_base.proofs.Common.{List, rules, subst, IsPermutation, answers_always}
use Rattle.gtfs_tables.specs.{FrequencyRow}
use Rattle.region_build.proofs.sources.frequencies_in_order.Goals as goal

pub returns : goal.returns
returns c = record {
  same = subst (λ (rows : List FrequencyRow). IsPermutation rows c.sort_by_key.new.self.items) c.in_ok-sorted.ensures.items c.in_ok-sort_by_key.ensures.permutation;
  ascend = c.in_ok-sort_by_key.ensures.sorted (λ frequency. (frequency.trip, frequency.row)) (answers_always _ _ _ (λ f a r g called. search rules));
}
