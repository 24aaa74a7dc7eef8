use Rattle.plan_base.proofs.Common.{sym, subst}
use Rattle.journey.specs.{IsKnown}
use Rattle.journey.proofs.QueryLemmas.{far_away, far_away_in, unknown_id, unknown_name}
use Rattle.journey.proofs.endpoints.lack_of.Goals as goal

pub returns-in-Some : goal.returns-in-Some
returns-in-Some c =
    rw c.in-Near.is (far_away c.args.network.now c.known.ensures c.in-Near.place _ _ c.in-Some.ensures
    (λ known. let yes = c.is_known.ensures.1 (subst (IsKnown c.args.network.now) (sym c.in-Near.is) known) in let no = c.if-is_known.false in cc))

pub returns-in-Some-nearest_in : goal.returns-in-Some-nearest_in
returns-in-Some-nearest_in c =
    rw c.in-NearIn.is (far_away_in c.args.network.now c.known.ensures c.in-NearIn.mode c.in-NearIn.place _ _ c.in-Some-nearest_in.ensures
    (λ known. let yes = c.is_known.ensures.1 (subst (IsKnown c.args.network.now) (sym c.in-NearIn.is) known) in let no = c.if-is_known.false in cc))

pub returns-in-Road : goal.returns-in-Road
returns-in-Road c = unknown_id c.args.network.now c.args.endpoint.now _ c.in-Road.is (λ known. let yes = c.is_known.ensures.1 known in let no = c.if-is_known.false in cc)

pub returns-in-Stop : goal.returns-in-Stop
returns-in-Stop c = unknown_name c.args.network.now c.args.endpoint.now _ c.in-Stop.is (λ known. let yes = c.is_known.ensures.1 known in let no = c.if-is_known.false in cc)
