use Rattle.plan_base.proofs.Common.{◌≡◌, ◌++◌, map, filter, length, nat_le, drop}
use Rattle.opl_reader.proofs.cutting.long_pieces.Given as goal

abbrev pub invariant-loop-piece : goal.invariant-loop-piece
invariant-loop-piece l =
    l.long.items ++ filter (λ piece. nat_le 2 (length piece)) (map (λ piece. piece.now) (drop l.piece-index l.pieces))
    ≡ filter (λ piece. nat_le 2 (length piece)) (map (λ piece. piece.now) l.pieces)
