-- What a run works on, and sayings of it.
use Rattle.std.specs.Prelude.{⊤}
use Rattle.plan_base.specs.{ShelfMeaning, SinkMeaning}

-- what a run works on: the shelf that it reads from, the output that it writes to, and what else there is
pub record Scene (K : Type 0) : Type 0 where
  pub shelf : ShelfMeaning
  pub out : SinkMeaning
  pub more : K

-- a saying speaks of a run, or of the rest of one: of what it works on, before and after, and of how it ends
abbrev pub SayingOf : Type 0 → Type 0 → Type 1
SayingOf K E = Scene K → Scene K → E → Type 0

abbrev pub scene_of : {K : Type 0} → ShelfMeaning → SinkMeaning → K → Scene K
scene_of shelf out more = record { shelf = shelf; out = out; more = more }

-- a scene of a shelf and an output alone
abbrev pub scene : ShelfMeaning → SinkMeaning → Scene ⊤
scene shelf out = scene_of shelf out tt

-- the same, with the shelf as it is later
abbrev pub with_shelf : {K : Type 0} → Scene K → ShelfMeaning → Scene K
with_shelf s later = record { shelf = later; out = s.out; more = s.more }
