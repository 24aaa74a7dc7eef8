-- The fifty queries of the sample city.
use Rattle.std.specs.Prelude.{decimal, ℕ, ◌+◌, ◌*◌, ◌/◌, ◌%◌, ◌==◌, List, ◌++◌, map, codes, if◌then◌else◌}
use Rattle.std.specs.List.{range_with_len}

abbrev pub expression_of : ℕ → List ℕ
expression_of k =
    if k % 5 == 0 then codes "foot"
    else (if k % 5 == 1 then codes "foot? (transit foot?){0,3}"
    else (if k % 5 == 2 then codes "foot bike foot?"
    else (if k % 5 == 3 then codes "(foot|bike|car)?"
    else codes "foot bus foot")))

-- the OSM ids of the corners that query k leads from and to, in a city of n rows and columns
abbrev pub origin_id : ℕ → ℕ → ℕ
origin_id n k = 1 + (13 * k * k + 5 * k) % (n * n)

abbrev pub destination_id : ℕ → ℕ → ℕ
destination_id n k = 1 + (29 * k + 7) % (n * n)

-- query k, which leaves k minutes after eight
unfoldable pub query_line : ℕ → ℕ → List ℕ
query_line n k =
    codes "n" ++ decimal (origin_id n k) ++ codes " n" ++ decimal (destination_id n k)
    ++ codes " 20240304 08:" ++ decimal (k / 10) ++ decimal (k % 10) ++ codes ":00 " ++ expression_of k

-- the queries before query k
unfoldable pub lines_before : ℕ → ℕ → List (List ℕ)
lines_before n k = map (query_line n) (range_with_len 0 k)

abbrev pub sampled_queries : ℕ → List (List ℕ)
sampled_queries n = lines_before n 50
