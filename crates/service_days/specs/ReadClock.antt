-- How a clock text is read back, which tells that no two times have the same: eight digits of a date, a space, the digits
-- of whole hundreds of hours, and the twelve bytes of what is left.
use Rattle.std.specs.Prelude.{ℕ, ◌+◌, ◌-◌, ◌*◌, ◌^◌, List, [], ◌∷◌, length, take, drop, Option, None, Some, ◌==◌, ◌&&◌, nat_eq, nat_le, nat_lt, if◌then◌else◌, option_and_then, option_map}
use Rattle.plain_texts.specs.{fixed_at, number_at}
use Rattle.service_days.specs.{DaysMeaning.DaysMeaning, Days.numbers_of, Days.base_of, Days.day_with_date}

-- a number of minutes or seconds
abbrev pub below_sixty : ℕ → Option ℕ
below_sixty n = if nat_lt n 60 then Some n else None

-- HH:MM:SS.mmm, of less than a hundred hours
abbrev pub short_at : List ℕ → Option ℕ
short_at (a ∷ b ∷ c ∷ d ∷ e ∷ f ∷ g ∷ h ∷ i ∷ j ∷ k ∷ l ∷ []) =
    if (c == 58) && (f == 58) && (i == 46) then
    option_and_then (λ hours.
    option_and_then (λ minutes.
    option_and_then (λ seconds.
    option_map (λ ms. ((hours * 60 + minutes) * 60 + seconds) * 1000 + ms)
    (fixed_at (j ∷ k ∷ l ∷ [])))
    (option_and_then below_sixty (fixed_at (g ∷ h ∷ []))))
    (option_and_then below_sixty (fixed_at (d ∷ e ∷ []))))
    (fixed_at (a ∷ b ∷ []))
    else None
short_at _ = None

-- whole hundreds of hours: nothing, or a number but 0
abbrev pub hundreds_at : List ℕ → Option ℕ
hundreds_at text =
    if nat_eq (length text) 0 then Some 0
    else option_and_then (λ n. if nat_eq n 0 then None else Some n) (number_at (10 ^ 30) text)

-- what stands after a space
abbrev pub after_space : List ℕ → Option (List ℕ)
after_space [] = None
after_space (b ∷ rest) = if b == 32 then Some rest else None

-- a time of a day: not so late that it is one of the next day, nor past the last time there is
abbrev pub moment_at : DaysMeaning → ℕ → ℕ → Option ℕ
moment_at days day ms =
    if nat_lt (day + 1) (numbers_of days) && nat_le (base_of days (day + 1)) (base_of days day + ms) then None
    else (if nat_lt (base_of days day + ms) (2 ^ 128) then Some (base_of days day + ms) else None)

-- a date, a space, and whole hundreds of hours, before a shorter time
abbrev pub front_at : DaysMeaning → List ℕ → ℕ → Option ℕ
front_at days front short =
    if nat_lt (length front) 8 then None else
    option_and_then (λ hundreds.
    option_and_then (λ date.
    option_and_then (λ day. moment_at days day (hundreds * 360000000 + short))
    (day_with_date days date))
    (fixed_at (take 8 front)))
    (option_and_then hundreds_at (after_space (drop 8 front)))

abbrev pub clock_at : DaysMeaning → List ℕ → Option ℕ
clock_at days text =
    if nat_lt (length text) 12 then None
    else option_and_then (front_at days (take (length text - 12) text)) (short_at (drop (length text - 12) text))
