-- The cell of an arrival is right, and rows one below the other.
use Rattle.plan_base.proofs.Common.{ℕ, ◌-◌, List, [], ◌∷◌, ◌++◌, append-nil, Option, Some, None, refl, sym, ap}
use Rattle.mode_network.specs.NetworkLists.{NetworkLists}
use Rattle.journey.specs.{Asked, Asks}
use Rattle.planning.specs.{IsBestArrival}
use Rattle.run_steps.proofs.JoinLemmas.{blocks_join}
use Rattle.matrix_commands.specs.{Cell, IsCellOf, IsRightCell, cell_text, query_line_of, AreRowsOf, IsMatrixRow, row_text, inside.cell_of_arrival}

pub timed_right : (n : NetworkLists) (line : List ℕ) (asked : Asked) (arrival : Option ℕ) → Asks n line asked → IsBestArrival n asked arrival → IsCellOf n line (cell_of_arrival asked.depart arrival)
timed_right n line asked (Some arrival) asks (j, best, at) = (asked, j, best, asks, ap (λ x. x - asked.depart) (sym at))
timed_right n line asked None asks none = (asked, asks, none)

-- one row more
pub rows_more : (n : NetworkLists) (places : Option ℕ) (date time expr from : List ℕ) (destinations : List (List ℕ)) (to rows : List ℕ) (cell : Cell) → AreRowsOf n places destinations date time expr from rows
    → IsRightCell n places (query_line_of date time expr from to) cell → AreRowsOf n places (destinations ++ to ∷ []) date time expr from (rows ++ row_text from to (cell_text cell))
rows_more n places date time expr from destinations to rows cell are right =
    let row = row_text from to (cell_text cell) in
    blocks_join (IsMatrixRow n places date time expr from) destinations (to ∷ []) rows row are
    (row, [], record { value = cell_text cell; is = record { cell = cell; right = right; tells = refl }; row_is = refl }, refl, sym (append-nil row))
