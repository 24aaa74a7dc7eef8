use Rattle.road_profile.specs.{class_named}
use Rattle.road_profile.proofs.ClassLaws.{class_moves}
use Rattle.road_profile.proofs.classes.class_of.Goals as goal

pub returns-clause-moving : goal.returns-clause-moving
unfolding class_named
returns-clause-moving c = rw c.class_in.ensures (class_moves c.args.highway.now)
