use Rattle.plan_base.proofs.Common.{to_z-of_z}
use Rattle.plan_base.proofs.PlaceAgain.{place_is}
use Rattle.plan_base.proofs.places.Place.new.Goals as goal

pub returns-then-lon-le1800000000-clause-place : goal.returns-then-lon-le1800000000-clause-place
returns-then-lon-le1800000000-clause-place c =
    place_is _ c.args.lat c.args.lon (to_z-of_z _ c.args.lat c.ranges.lat) (to_z-of_z _ c.args.lon c.ranges.lon)
