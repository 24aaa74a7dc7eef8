-- The block that is printed for a query line.
use Rattle.std.specs.Prelude.{◌≡◌, ℕ, ◌<◌, List, length, [], ◌∷◌, ◌++◌, Option, codes, slice_get, unwrap_or, option_map, option_to_list, slice_index_or, true, false, flat_map, decimal}
use Rattle.std.specs.Fmt.{signed_decimal}
use Rattle.plain_texts.specs.{with_feed, fixed_decimal}
use Rattle.service_days.specs.{clock_text_of, date_of, numbers_of}
use Rattle.timetable_arcs.specs.{TripLists, no_trip}
use Rattle.plan_base.specs.{number_of_mode, letter_names}
use Rattle.mode_network.specs.{Node, NodeKey, Road as RoadKey, Stop as StopKey, Switch as SwitchKey, Step, Wait, Link, Stand, Ride, nodes_of, Route, IsStep, declared.steps.Step.TheVariants.Road, NetworkLists.NetworkLists}
use Rattle.search_laws.specs.{collapse}
use Rattle.journey.specs.{declared.fault.QueryFault.QueryFault, declared.fault.QueryFault.TheVariants.Shape, declared.fault.QueryFault.TheVariants.BadClock, declared.fault.QueryFault.TheVariants.OutOfRange, declared.fault.QueryFault.TheVariants.UnknownFrom, declared.fault.QueryFault.TheVariants.UnknownTo, declared.fault.QueryFault.TheVariants.TooLong, declared.fault.QueryFault.TheVariants.TooDeep, declared.fault.QueryFault.TheVariants.Syntax, declared.fault.QueryFault.TheVariants.TooLarge, declared.fault.QueryFault.TheVariants.OffNetwork, declared.fault.QueryFault.TheVariants.OutOfMemory}

-- the name of a letter
abbrev pub letter_text : ℕ → List ℕ
letter_text letter = unwrap_or (slice_get letter_names letter) []

-- a stop has a name
abbrev pub IsNamed : NetworkLists → NodeKey → Type 0
IsNamed n (RoadKey mode id) = Unit {0}
IsNamed n (StopKey stop) = stop < length n.stop_names
IsNamed n (SwitchKey id) = Unit {0}

-- the trip and the day that a step names are there
abbrev pub IsThere : NetworkLists → Step → Type 0
IsThere n (Wait until) = Unit {0}
IsThere n (Road to) = Unit {0}
IsThere n (Link to) = Unit {0}
IsThere n Stand = Unit {0}
IsThere n (Ride trip day board alight) = (trip < length n.trips) × (day < numbers_of n.days)

-- foot:ID, bike:ID or car:ID, stop:NAME, or switch:ID
abbrev pub key_text : NetworkLists → NodeKey → List ℕ
key_text n (RoadKey mode id) = letter_text (number_of_mode mode) ++ 58 ∷ signed_decimal id
key_text n (StopKey stop) = codes "stop:" ++ unwrap_or (slice_get n.stop_names stop) []
key_text n (SwitchKey id) = codes "switch:" ++ signed_decimal id

abbrev pub node_text : NetworkLists → ℕ → List ℕ
node_text n v = unwrap_or (option_map (λ (node : Node). key_text n node.key) (slice_get (nodes_of n) v)) []

-- a node, a space and a clock text
abbrev pub place_text : NetworkLists → ℕ → ℕ → List ℕ
place_text n v t = node_text n v ++ 32 ∷ clock_text_of n.days t

-- the letter, the day's date, and where and when the ride alights, and then the trip's name
abbrev pub ride_text : NetworkLists → TripLists → ℕ → ℕ → ℕ → List ℕ
ride_text n trip day v t =
    letter_text trip.letter ++ 32 ∷ fixed_decimal 8 (date_of n.days day) ++ 32 ∷ place_text n v t ++ 32 ∷ trip.name

-- the line of a step that ends at v at the time t
abbrev pub step_text : NetworkLists → Step → ℕ → ℕ → List ℕ
step_text n (Wait until) v t = codes "wait " ++ clock_text_of n.days t
step_text n (Road to) v t = codes "road " ++ place_text n v t
step_text n (Link to) v t = codes "link " ++ place_text n v t
step_text n Stand v t = codes "stand"
step_text n (Ride trip day board alight) v t = codes "ride " ++ ride_text n (slice_index_or n.trips trip no_trip) day v t

-- the steps lead from v at t to w at u with these letters, and this is the line of each, one below the other
abbrev pub AreTold : NetworkLists → ℕ → ℕ → List Step → ℕ → ℕ → List ℕ → List ℕ → Type 0
AreTold n v t [] w u letters text = (w ≡ v) × (u ≡ t) × (letters ≡ []) × (text ≡ [])
AreTold n v t (step ∷ steps) w u letters text =
    (v1 : ℕ) × (t1 : ℕ) × (letter : Option ℕ) × (rest : List ℕ) × (lines : List ℕ)
    × IsStep n v t step v1 t1 letter × AreTold n v1 t1 steps w u rest lines
    × (letters ≡ option_to_list letter ++ rest) × (text ≡ with_feed (step_text n step v1 t1) ++ lines)

-- each letter's name, after a space
abbrev pub word_text : List ℕ → List ℕ
word_text word = codes "word" ++ flat_map (λ letter. 32 ∷ letter_text letter) word

-- what is printed of a journey: when it arrives, its word, where and when it starts, and its steps
pub record IsJourneyText (n : NetworkLists) (j : Route) (text : List ℕ) : Type 0 where
  pub end : ℕ
  pub arrival : ℕ
  pub letters : List ℕ
  pub steps : List ℕ
  pub told : AreTold n j.start j.at j.steps end arrival letters steps
  pub text_is : text ≡ with_feed (codes "arrive " ++ clock_text_of n.days arrival) ++ with_feed (word_text (collapse letters))
      ++ with_feed (codes "from " ++ place_text n j.start j.at) ++ steps

abbrev pub refusal_text : QueryFault → List ℕ
refusal_text Shape = codes "refused shape"
refusal_text BadClock = codes "refused clock"
refusal_text OutOfRange = codes "refused range"
refusal_text UnknownFrom = codes "refused from"
refusal_text UnknownTo = codes "refused to"
refusal_text (TooLong bytes) = codes "refused long " ++ decimal bytes
refusal_text (TooDeep at) = codes "refused deep " ++ decimal at
refusal_text (Syntax at) = codes "refused syntax " ++ decimal at
refusal_text (TooLarge places) = codes "refused large " ++ decimal places
refusal_text (OffNetwork false mm) = codes "refused far from " ++ decimal mm
refusal_text (OffNetwork true mm) = codes "refused far to " ++ decimal mm
refusal_text OutOfMemory = []

-- the query line, a body and the line `end`
abbrev pub block_text : List ℕ → List ℕ → List ℕ
block_text line body = with_feed (codes "query " ++ line) ++ body ++ with_feed (codes "end")
