use Rattle.plan_base.proofs.Common.{◌≡◌, ◌++◌, take, flat_map}
use Rattle.region_file.specs.declared.lines.Line.TheVariants as line
use Rattle.region_file.specs.inside.{line_in}
use Rattle.region_file.proofs.encoding.push_arcs.Given as goal

abbrev pub invariant-loop-arc : goal.invariant-loop-arc
invariant-loop-arc l = l.out.items ≡ l.fn.out.items ++ flat_map (λ arc. line_in l.format (line.Arc arc)) (take l.arc-index l.arcs)
