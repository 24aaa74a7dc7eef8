-- Letters, which are numbers, and sets of them, in which each is a bit.
use Rattle.std.specs.Prelude.{ℕ, ◌^◌, ◌<◌}

-- how many letters there are: they are the numbers below
abbrev pub letter_count : ℕ
letter_count = 14

-- the set of all letters
abbrev pub every_letter : ℕ
every_letter = 0x3fff

-- the set of the letters of public transport, which are 3 to 13
abbrev pub transit_letters : ℕ
transit_letters = 0x3ff8

abbrev pub IsLetter : ℕ → Type 0
IsLetter c = c < letter_count

abbrev pub IsLetterSet : ℕ → Type 0
IsLetterSet letters = letters < 2 ^ letter_count
