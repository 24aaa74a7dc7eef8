use Rattle.plan_base.proofs.Common.{ap, ◌∙◌, take}
use Rattle.region_build.proofs.GroupLaws.{kept, later, own}
use Rattle.region_build.proofs.sources.split_rows.Goals as goal

pub returns-clause-own : goal.returns-clause-own
returns-clause-own g c = c.split_at.ensures.front ∙ ap (λ count. take count c.args.rows.now) c.own_count.ensures ∙ own g.R.OfTrip.trip_of c.args.trip c.args.rows.now c.requires

pub returns-clause-ascend : goal.returns-clause-ascend
returns-clause-ascend g c = rw (c.split_at.ensures.back, c.own_count.ensures) (later g.R.OfTrip.trip_of c.args.trip c.args.rows.now c.requires)

pub returns-clause-later : goal.returns-clause-later
returns-clause-later g c = λ k high. rw (c.split_at.ensures.back, c.own_count.ensures) (kept g.R.OfTrip.trip_of c.args.trip k c.args.rows.now c.requires high)
