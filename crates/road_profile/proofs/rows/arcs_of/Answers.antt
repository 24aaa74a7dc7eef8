use Rattle.plan_base.proofs.Common.{rules, of_calls, answers_always}
use Rattle.std.proofs.lemmas.Fn.{dedup_same}
use Rattle.plan_base.specs.{number_of_mode}
use Rattle.road_profile.proofs.{LeastRows.least_are_arcs, RowOrder.same_key}
use Rattle.road_profile.proofs.rows.arcs_of.Goals as goal

pub returns : goal.returns
returns c =
    let rows = dedup_same _ same_key _ (λ x y b f' x' y' k. search (rules, of_calls)) _ _ c.dedup_by_key.ensures.filtered in
    rw rows (least_are_arcs c.args.legs.items c.sort_by_key.new.self.items c.in_ok-sort_by_key.ensures.permutation
    (c.in_ok-sort_by_key.ensures.sorted (λ row. (row.from, row.to, number_of_mode row.mode, row.ms)) (answers_always _ _ _ (λ f a r g called. search (rules, of_calls)))))
