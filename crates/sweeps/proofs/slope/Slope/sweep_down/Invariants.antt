use Rattle.sweeps.proofs.SweepLemmas.{DownFrom}
use Rattle.sweeps.proofs.slope.Slope.sweep_down.Given as goal

-- what leads down to the places from i on is taken
abbrev pub invariant-loop-i : goal.invariant-loop-i
invariant-loop-i l = record { down : DownFrom l.self l.initial.times l.i l.times }
