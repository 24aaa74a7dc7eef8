-- The modes of roads, which are the first letters of words.
use Rattle.std.specs.Prelude.{ℕ, List, [], ◌∷◌, Option, position, slice_get, option_and_then, bytes_eq}
use Rattle.plan_base.specs.LetterNames.{road_names}
pub use Rattle.plan_base.specs.{declared.modes.Mode.Mode, declared.modes.Mode.TheVariants.Foot, declared.modes.Mode.TheVariants.Bike, declared.modes.Mode.TheVariants.Car}

abbrev pub number_of_mode : Mode → ℕ
number_of_mode Foot = 0
number_of_mode Bike = 1
number_of_mode Car = 2

abbrev pub modes : List Mode
modes = Foot ∷ Bike ∷ Car ∷ []

-- the mode with this number, and that with this name
abbrev pub mode_numbered : ℕ → Option Mode
mode_numbered number = slice_get modes number

abbrev pub mode_named : List ℕ → Option Mode
mode_named name = option_and_then mode_numbered (position (λ known. bytes_eq known name) road_names)
