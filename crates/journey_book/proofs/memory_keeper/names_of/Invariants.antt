use Rattle.plan_base.proofs.Common.{◌≡◌, ◌++◌, map, string_bytes, keys}
use Rattle.journey_book.proofs.memory_keeper.names_of.Given as goal

-- the names so far, and those that are left, are the map's
abbrev pub invariant-loop-name : goal.invariant-loop-name
invariant-loop-name l = map string_bytes l.names.items ++ map string_bytes l.name-iterator ≡ map string_bytes (keys l.map)
