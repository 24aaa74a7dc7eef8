use Rattle.plan_base.proofs.Common.{◌≤◌}
use Rattle.geo_length.proofs.{LengthLaws.eastward-ge, WidthLaws.width_at-falls}
use Rattle.geo_length.specs.{mean_degree, width_at}
use Rattle.geo_length.proofs.gaps.least_east.Goals as goal

pub returns : goal.returns
returns c = λ other inside.
    let falls : width_at c.steepest_degree.result ≤ width_at (mean_degree c.args.place other) = width_at-falls _ _ (c.steepest_degree.ensures.value other inside) in
    eastward-ge c.args.place other _ _ (c.longitude_gap.ensures.value other inside) (rw c.width.ensures.value falls)
