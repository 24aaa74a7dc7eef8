-- Who may use a way and how fast, and in which directions.
use Rattle.std.specs.Prelude.{ℕ, List, [], ◌∷◌, Bool, ◌||◌, Option, Some, None, unwrap_or, codes, bytes_eq, if◌then◌else◌}
use Rattle.road_profile.specs.{declared.rules.Direction.Direction, declared.rules.Direction.TheVariants.Both, declared.rules.Direction.TheVariants.Forward, declared.rules.Direction.TheVariants.Backward, Tags.is_among}

-- values of a mode's own tag by which it may use the way
unfoldable pub grants : Option (List ℕ) → Bool
grants own = is_among (codes "yes" ∷ codes "designated" ∷ codes "permissive" ∷ codes "official" ∷ codes "destination" ∷ []) own

-- values of a mode's own tag by which it may not
unfoldable pub refuses : Option (List ℕ) → Bool
refuses own = is_among (codes "no" ∷ codes "private" ∷ codes "dismount" ∷ codes "use_sidepath" ∷ []) own

-- values of the key `access` by which it may not
unfoldable pub closes : Option (List ℕ) → Bool
closes access = is_among (codes "no" ∷ codes "private" ∷ []) access

-- The speed of a mode, where it may use the way: its own tag is asked first, then the key `access`, then the
-- class of the way. Where the own tag alone lets it, the class has no speed, and another one stands for it.
unfoldable pub speed_by : Option (List ℕ) → Option (List ℕ) → Option ℕ → ℕ → Option ℕ
speed_by own access by_class otherwise =
    if grants own then Some (unwrap_or by_class otherwise)
    else (if refuses own then None
    else (if closes access then None
    else by_class))

-- values of the key `oneway`
unfoldable pub says_forward : Option (List ℕ) → Bool
says_forward oneway = is_among (codes "yes" ∷ codes "true" ∷ codes "1" ∷ []) oneway

unfoldable pub says_backward : Option (List ℕ) → Bool
says_backward oneway = is_among (codes "-1" ∷ codes "reverse" ∷ []) oneway

unfoldable pub says_both : Option (List ℕ) → Bool
says_both oneway = is_among (codes "no" ∷ codes "false" ∷ codes "0" ∷ []) oneway

-- the value of the key `junction` that makes a way one-way by itself
unfoldable pub is_roundabout : Option (List ℕ) → Bool
is_roundabout junction = is_among (codes "roundabout" ∷ []) junction

-- the directions of cars: forward is the order of the way's nodes
unfoldable pub car_direction : List ℕ → Option (List ℕ) → Option (List ℕ) → Direction
car_direction highway oneway junction =
    if says_forward oneway then Forward
    else (if says_backward oneway then Backward
    else (if says_both oneway then Both
    else (if is_roundabout junction || bytes_eq highway (codes "motorway") then Forward
    else Both)))

-- values of the key `oneway:bicycle`
unfoldable pub frees_bikes : Option (List ℕ) → Bool
frees_bikes oneway = is_among (codes "no" ∷ []) oneway

unfoldable pub sends_bikes_forward : Option (List ℕ) → Bool
sends_bikes_forward oneway = is_among (codes "yes" ∷ []) oneway

unfoldable pub sends_bikes_backward : Option (List ℕ) → Bool
sends_bikes_backward oneway = is_among (codes "-1" ∷ []) oneway

-- the directions of bikes: by their own tag, and otherwise as for cars
unfoldable pub bike_direction : Option (List ℕ) → Direction → Direction
bike_direction oneway for_cars =
    if frees_bikes oneway then Both
    else (if sends_bikes_forward oneway then Forward
    else (if sends_bikes_backward oneway then Backward
    else for_cars))
