-- The block of a query line that asks for the journeys that are worth their boardings.
use Rattle.std.specs.Prelude.{◌≡◌, ℕ, List, [], ◌∷◌, ◌++◌, codes, decimal}
use Rattle.plain_texts.specs.{with_feed}
use Rattle.mode_network.specs.NetworkLists.{NetworkLists}
use Rattle.journey.specs.{Asked, IsRightBlock, IsJourneyText}
use Rattle.few_boardings.specs.{declared.boardings.FewRow.FewRow, Boardings.AreFewRows}

-- of each row the line `boardings` with its number, and what is printed of its journey
abbrev pub AreBoardingsTold : NetworkLists → List FewRow → List ℕ → Type 0
AreBoardingsTold n [] text = text ≡ []
AreBoardingsTold n (row ∷ rows) text =
    (own : List ℕ) × (rest : List ℕ) × IsJourneyText n row.journey own × AreBoardingsTold n rows rest
    × (text ≡ with_feed (codes "boardings " ++ decimal row.boardings) ++ own ++ rest)

-- the body of a block: the rows, or the line `no journey` where there is none
abbrev pub IsFewText : NetworkLists → List FewRow → List ℕ → Type 0
IsFewText n [] text = text ≡ with_feed (codes "no journey")
IsFewText n (row ∷ rows) text = AreBoardingsTold n (row ∷ rows) text

-- the boardings list of what is asked
pub record IsRowsText (n : NetworkLists) (q : Asked) (text : List ℕ) : Type 0 where
  pub rows : List FewRow
  pub are : AreFewRows n q rows
  pub told : IsFewText n rows text

-- the right block of a query line: that of its refusal, or of its boardings list
abbrev pub IsFewBlock : NetworkLists → List ℕ → List ℕ → Type 0
IsFewBlock n line block = IsRightBlock n (IsRowsText n) line block
