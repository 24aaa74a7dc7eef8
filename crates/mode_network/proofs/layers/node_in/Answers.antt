use Rattle.plan_base.proofs.Common.{rules, of_calls, always_returns_same}
use Rattle.plan_base.specs.{number_of_mode}
use Rattle.mode_network.proofs.LayerLemmas.{key_found, key_missing, rank_cmp}
use Rattle.mode_network.proofs.layers.node_in.Goals as goal

pub returns-in-Ok-clause-found : goal.returns-in-Ok-clause-found
returns-in-Ok-clause-found c =
    (key_found c.args.roads.now c.requires.ascend c.args.mode c.args.id c.requires.are c.in-Ok.place c.in-Ok.ensures.bound
    (c.in-Ok.ensures.position (rank_cmp (c.args.id, number_of_mode c.args.mode)) (always_returns_same _ _ _ (λ a r f k. search (rules, of_calls))))).0

pub returns-in-Ok-clause-only : goal.returns-in-Ok-clause-only
returns-in-Ok-clause-only c =
    (key_found c.args.roads.now c.requires.ascend c.args.mode c.args.id c.requires.are c.in-Ok.place c.in-Ok.ensures.bound
    (c.in-Ok.ensures.position (rank_cmp (c.args.id, number_of_mode c.args.mode)) (always_returns_same _ _ _ (λ a r f k. search (rules, of_calls))))).1

pub returns-in-Err-clause-only : goal.returns-in-Err-clause-only
returns-in-Err-clause-only c =
    key_missing c.args.roads.now c.requires.ascend c.args.mode c.args.id c.in-Err.field-0
    (c.in-Err.ensures.position (rank_cmp (c.args.id, number_of_mode c.args.mode)) (always_returns_same _ _ _ (λ a r f k. search (rules, of_calls))))
