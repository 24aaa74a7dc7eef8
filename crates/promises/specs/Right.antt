-- What `answer` is to tell of a network and of what is asked of it. Both are given here: no text is spoken of, and
-- no search.
use Rattle.std.specs.Prelude.{Option, Some, None}
use Rattle.mode_network.specs.{NetworkLists.NetworkLists, Route}
use Rattle.journey.specs.{Asked, IsBest, HasNone, BoardsOnTime}

-- Asked is for journeys from a copy of one endpoint to a copy of another, which leave at a time or later and have a
-- word that a form denotes. Right is a journey that answers, where none that does arrives earlier, and each of whose
-- rides is boarded when it departs; or that there is none, where no journey answers.
abbrev pub IsRight : NetworkLists → Asked → Option Route → Type 0
IsRight n asked (Some journey) = IsBest n asked journey × BoardsOnTime n journey
IsRight n asked None = HasNone n asked
