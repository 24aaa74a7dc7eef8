-- The forms of fields.
use Rattle.std.specs.Prelude.{ℕ, ◌+◌, ◌-◌, ◌*◌, ◌^◌, List, [], ◌∷◌, length, take, drop, reverse, codes, bytes_eq, Bool, true, false, ◌==◌, ◌&&◌, ◌||◌, nat_eq, nat_le, nat_lt, Option, None, Some, option_and_then, option_map, if◌then◌else◌, take_while}
use Rattle.std.specs.Str.{is_utf8}
use Rattle.plain_texts.specs.{is_space, fixed_at}
use Rattle.service_days.specs.{below_sixty}

-- an id, or the name of a time zone: at least one byte and fewer than 2 ^ 30, in UTF-8
unfoldable pub is_id : List ℕ → Bool
is_id text = nat_lt 0 (length text) && (nat_lt (length text) (2 ^ 30) && is_utf8 text)

-- it is taken as it stands
abbrev pub feed_id_at : List ℕ → Option (List ℕ)
feed_id_at text = if is_id text then Some text else None

-- how many spaces stand at the front
abbrev pub front_spaces : List ℕ → ℕ
front_spaces text = length (take_while is_space text)

abbrev pub without_front_spaces : List ℕ → List ℕ
without_front_spaces text = drop (front_spaces text) text

abbrev pub without_end_spaces : List ℕ → List ℕ
without_end_spaces text = take (length text - front_spaces (reverse text)) text

-- From every other field the spaces at both ends are dropped first.
unfoldable pub trimmed : List ℕ → List ℕ
trimmed text = without_end_spaces (without_front_spaces text)

-- the number that 1 to 9 digits spell
unfoldable pub up_to_nine_digits_at : List ℕ → Option ℕ
up_to_nine_digits_at text = if nat_lt 0 (length text) && nat_le (length text) 9 then fixed_at text else None

-- 1 to 9 digits that do not spell 0
abbrev pub positive : ℕ → Option ℕ
positive n = if nat_lt 0 n then Some n else None

abbrev pub headway_at : List ℕ → Option ℕ
headway_at text = option_and_then positive (up_to_nine_digits_at text)

-- 0 or 1
abbrev pub flag_at : List ℕ → Option Bool
flag_at text =
    if bytes_eq text (codes "0") then Some false
    else (if bytes_eq text (codes "1") then Some true else None)

-- 1 for a date that is added, or 2 for one that is removed
abbrev pub added_at : List ℕ → Option Bool
added_at text =
    if bytes_eq text (codes "1") then Some true
    else (if bytes_eq text (codes "2") then Some false else None)

-- one digit up to this one; nothing stands for 0
abbrev pub choice_at : ℕ → List ℕ → Option ℕ
choice_at most [] = Some 0
choice_at most (b ∷ []) = if nat_le 48 b && nat_le b (48 + most) then Some (b - 48) else None
choice_at most (a ∷ b ∷ more) = None

-- whether the choice is 0, for which nothing may stand
abbrev pub is_usual_at : ℕ → List ℕ → Option Bool
is_usual_at most text = option_map (λ choice. nat_eq choice 0) (choice_at most text)

-- the letter of a route's type, from tram (3) to other (13)
abbrev pub letter_of_type : ℕ → ℕ
letter_of_type type =
    if nat_le type 7 then type + 3
    else (if nat_eq type 11 || nat_eq type 12 then type else 13)

-- the seconds of `:MM:SS`
abbrev pub minutes_and_seconds_at : List ℕ → Option ℕ
minutes_and_seconds_at (a ∷ b ∷ c ∷ d ∷ e ∷ f ∷ []) =
    if (a == 58) && (d == 58) then
    option_and_then (λ minutes.
    option_map (λ seconds. minutes * 60 + seconds)
    (option_and_then below_sixty (fixed_at (e ∷ f ∷ []))))
    (option_and_then below_sixty (fixed_at (b ∷ c ∷ [])))
    else None
minutes_and_seconds_at _ = None

abbrev pub up_to_a_week : ℕ → Option ℕ
up_to_a_week seconds = if nat_le seconds 604799 then Some seconds else None

-- the seconds of so many hours and a part of an hour, up to 167:59:59
abbrev pub hours_and_part : Option ℕ → Option ℕ → Option ℕ
hours_and_part hours part = option_and_then (λ h. option_and_then (λ p. up_to_a_week (h * 3600 + p)) part) hours

-- the seconds of a time: 1 to 3 digits of hours before `:MM:SS`
unfoldable pub service_time_at : List ℕ → Option ℕ
service_time_at text =
    if nat_le 7 (length text) && nat_le (length text) 9
    then hours_and_part (fixed_at (take (length text - 6) text)) (minutes_and_seconds_at (drop (length text - 6) text))
    else None

-- a time, or nothing
abbrev pub optional_time_at : List ℕ → Option (Option ℕ)
optional_time_at [] = Some None
optional_time_at (b ∷ bs) = option_map Some (service_time_at (b ∷ bs))
