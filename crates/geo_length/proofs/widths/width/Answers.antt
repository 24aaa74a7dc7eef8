use Rattle.geo_length.specs.{width_at}
use Rattle.geo_length.proofs.WidthLaws.{width_at-le}
use Rattle.geo_length.proofs.widths.width.Goals as goal

pub returns-clause-within : goal.returns-clause-within
unfolding width_at
returns-clause-within c = width_at-le c.args.degree
