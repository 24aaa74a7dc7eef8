use Rattle.plan_base.proofs.Common.{◌≡◌, map}
use Rattle.opl_reader.specs.{cut_way, is_seen_placed}
use Rattle.opl_reader.proofs.cutting.cut_ways.Given as goal

abbrev pub invariant-loop-way : goal.invariant-loop-way
invariant-loop-way l = l.done.items ≡ map (cut_way (is_seen_placed l.seen.entries)) l.yielded
