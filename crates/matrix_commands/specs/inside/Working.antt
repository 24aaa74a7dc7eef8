-- What the steps of the command hold: lines that ask as both ends of a query, the table that rows are read from, and an origin with its arrivals.
use Rattle.std.specs.Prelude.{◌≡◌, ℕ, ◌-◌, ◌<◌, List, [], map, length, Option, Some, None, IfSome, position, ◌==◌, slice_index_or}
use Rattle.mode_network.specs.NetworkLists.{NetworkLists}
use Rattle.journey.specs.{Query, IsSmall}
use Rattle.planning.specs.{IsRead, AreArrivalsTo, AreDestinations}
use Rattle.matrix_commands.specs.{declared.cell.Cell.Cell, declared.cell.Cell.TheVariants.Takes, declared.cell.Cell.TheVariants.Without, declared.table.Table.Table, declared.table.Origin.Origin, Cells.query_line_of, Cells.IsRightCell, Rows.AreRowsOf}

-- no space stands in the text
abbrev pub IsField : List ℕ → Type 0
IsField text = position (λ b. b == 32) text ≡ None

-- The line is one field, and so are the date and the time; and the query line that has it at both ends asks this, with no more places than are allowed.
pub record IsEndQuery (n : NetworkLists) (places : Option ℕ) (date time expr line : List ℕ) (q : Query) : Type 0 where
  pub field : IsField line
  pub date_field : IsField date
  pub time_field : IsField time
  pub read : IsRead n q
  pub line_is : q.line ≡ query_line_of date time expr line line
  pub small : IsSmall n places q.line

abbrev pub IsEndIfAny : NetworkLists → (places : Option ℕ) → (date time expr line : List ℕ) → Option Query → Type 0
IsEndIfAny n places date time expr line query = IfSome query (IsEndQuery n places date time expr line)

-- so it is for each of some lines
pub record AreEndQueries (n : NetworkLists) (places : Option ℕ) (date time expr : List ℕ) (lines : List (List ℕ)) (queries : List (Option Query)) : Type 0 where
  pub one_each : length queries ≡ length lines
  pub are : (k : ℕ) → k < length lines → IsEndIfAny n places date time expr (slice_index_or lines k []) (slice_index_or queries k None)

-- the destinations of a table, as the lines that they are
abbrev pub lines_in : Table → List (List ℕ)
lines_in t = map (λ line. line.now) t.lines.now

-- the destinations that are searched are those of the lines that ask as both ends
pub record IsReadyTable (t : Table) : Type 0 where
  pub ready : AreDestinations t.destinations.now
  pub ends : AreEndQueries t.destinations.now.network.now t.asking.now.places t.asking.now.date.now t.asking.now.time.now t.asking.now.expr.now (lines_in t) t.destinations.now.queries.now

-- an origin that asks as both ends, with its arrivals at the destinations; or one that does not
abbrev pub HasArrivals : Table → List ℕ → Option Query → List (Option ℕ) → Type 0
HasArrivals t line None times = Unit {0}
HasArrivals t line (Some q) times =
    IsEndQuery t.destinations.now.network.now t.asking.now.places t.asking.now.date.now t.asking.now.time.now t.asking.now.expr.now line q
    × AreArrivalsTo t.destinations.now.network.now q t.destinations.now.queries.now times

abbrev pub IsOrigin : Table → Origin → Type 0
IsOrigin t origin = HasArrivals t origin.line.now origin.query origin.times.items

-- the right cell of an origin and a destination, and the rows of an origin
abbrev pub IsCellIn : Table → List ℕ → List ℕ → Cell → Type 0
IsCellIn t from to cell = IsRightCell t.destinations.now.network.now t.asking.now.places (query_line_of t.asking.now.date.now t.asking.now.time.now t.asking.now.expr.now from to) cell

abbrev pub AreRowsIn : Table → List ℕ → List ℕ → Type 0
AreRowsIn t from rows = AreRowsOf t.destinations.now.network.now t.asking.now.places (lines_in t) t.asking.now.date.now t.asking.now.time.now t.asking.now.expr.now from rows

-- the cell of an arrival, from a departure on
abbrev pub cell_of_arrival : ℕ → Option ℕ → Cell
cell_of_arrival depart (Some arrival) = Takes (arrival - depart)
cell_of_arrival depart None = Without
