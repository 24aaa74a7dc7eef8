-- The letters of words: fourteen means of transport, by number.
use Rattle.std.specs.Prelude.{ℕ, List, [], ◌∷◌, Option, Some, ◌^◌, codes, position, option_map, slice_get, if◌then◌else◌, bytes_eq}
use Rattle.plan_base.specs.{letter_names}
use Rattle.search_laws.specs.{every_letter, transit_letters}
pub use Rattle.mode_expression.specs.{declared.letter.Letter.Letter, declared.letter.Letter.TheVariants.Foot, declared.letter.Letter.TheVariants.Bike, declared.letter.Letter.TheVariants.Car, declared.letter.Letter.TheVariants.Tram, declared.letter.Letter.TheVariants.Metro, declared.letter.Letter.TheVariants.Rail, declared.letter.Letter.TheVariants.Bus, declared.letter.Letter.TheVariants.Ferry, declared.letter.Letter.TheVariants.Cable, declared.letter.Letter.TheVariants.Lift, declared.letter.Letter.TheVariants.Funicular, declared.letter.Letter.TheVariants.Trolley, declared.letter.Letter.TheVariants.Monorail, declared.letter.Letter.TheVariants.Other}

abbrev pub number_of : Letter → ℕ
number_of Foot = 0
number_of Bike = 1
number_of Car = 2
number_of Tram = 3
number_of Metro = 4
number_of Rail = 5
number_of Bus = 6
number_of Ferry = 7
number_of Cable = 8
number_of Lift = 9
number_of Funicular = 10
number_of Trolley = 11
number_of Monorail = 12
number_of Other = 13

abbrev pub letters : List Letter
letters = Foot ∷ Bike ∷ Car ∷ Tram ∷ Metro ∷ Rail ∷ Bus ∷ Ferry ∷ Cable ∷ Lift ∷ Funicular ∷ Trolley ∷ Monorail ∷ Other ∷ []

-- the letter with this number
abbrev pub letter_numbered : ℕ → Option Letter
letter_numbered number = slice_get letters number

-- the number of the letter with this name
abbrev pub letter_named : List ℕ → Option ℕ
letter_named name = position (λ known. bytes_eq known name) letter_names

-- the letters that a name in an expression stands for, as bits
abbrev pub letters_named : List ℕ → Option ℕ
letters_named name =
    if bytes_eq name (codes "any") then Some every_letter
    else (if bytes_eq name (codes "transit") then Some transit_letters else option_map (λ number. 2 ^ number) (letter_named name))
