use Rattle.sweeps.proofs.SweepLemmas.{UpTo}
use Rattle.sweeps.proofs.sheet.Sheet.sweep_up.Given as goal

-- what leads up from the places below i is taken
abbrev pub invariant-loop-i : goal.invariant-loop-i
invariant-loop-i l = record { up : UpTo l.self l.limit l.initial.times l.i l.times }
