use Rattle.std.specs.Prelude.{ℕ, ◌+◌, ◌-◌, ◌^◌, min, List, length, Option, None, Some, Result, Ok, Err, if◌then◌else◌, nat_eq, ◌||◌}
use Rattle.std.specs.List.{list_any}
pub use Rattle.plan_base.specs.{declared.reading.ShelfError.ShelfError, declared.writing.SinkFailed.SinkFailed, declared.reading.ShelfError.TheVariants.Missing, declared.reading.ShelfError.TheVariants.Failed}

-- a counter after one more; the last value of a counter stays
abbrev pub count_after : ℕ → ℕ
count_after n = min (n + 1) (2 ^ 64 - 1)

-- how many bytes of the file are given, or that there is none
abbrev pub given_of : Option (List ℕ) → ℕ → ℕ → Result ℕ ShelfError
given_of None from room = Err Missing
given_of (Some file) from room = Ok (min room (length file - from))

-- the answer of the read of this number, where the reads of these numbers fail
abbrev pub read_answer : List ℕ → ℕ → Option (List ℕ) → ℕ → ℕ → Result ℕ ShelfError
read_answer fail number held from room = if list_any (λ n. nat_eq n number) fail then Err Failed else given_of held from room

-- the answer of the write of this number, where the writes of these numbers fail: the bytes that are taken
abbrev pub write_answer : List ℕ → ℕ → ℕ → ℕ → ℕ → Result ℕ SinkFailed
write_answer fail number most left len =
    if list_any (λ n. nat_eq n number) fail || nat_eq left 0 then Err (record {}) else Ok (min (min len most) left)

-- how often a shelf missed a name and failed, after an answer: a good read counts as neither
abbrev pub counts_after : Result ℕ ShelfError → ℕ × ℕ → ℕ × ℕ
counts_after (Ok n) counts = counts
counts_after (Err Missing) counts = (count_after counts.0, counts.1)
counts_after (Err Failed) counts = (counts.0, count_after counts.1)

-- how often a sink failed, after an answer
abbrev pub faults_after : Result ℕ SinkFailed → ℕ → ℕ
faults_after (Ok n) faults = faults
faults_after (Err failed) faults = count_after faults
