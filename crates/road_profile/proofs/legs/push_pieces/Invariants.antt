use Rattle.plan_base.proofs.Common.{◌≡◌, ◌++◌, take, flat_map, get, int_eq}
use Rattle.road_profile.specs.{piece_legs}
use Rattle.road_profile.proofs.legs.push_pieces.Given as goal

abbrev pub invariant-loop-piece : goal.invariant-loop-piece
invariant-loop-piece l =
    l.rows.items ≡ l.initial.rows.items ++ flat_map (piece_legs (get int_eq l.places.by_id) l.passages) (take l.piece-index l.pieces)
