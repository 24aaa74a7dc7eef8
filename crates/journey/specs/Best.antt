-- Which journeys answer a query, and which answer is the best.
use Rattle.std.specs.Prelude.{◌≡◌, ℕ, ◌≤◌, ◌⊎◌, List}
use Rattle.plain_texts.specs.{with_feed}
use Rattle.mode_expression.specs.{Form.Form, form_of, IsWordOf}
use Rattle.mode_network.specs.{Endpoint, Route, IsJourney, IsCopy, NetworkLists.NetworkLists}
use Rattle.journey.specs.{declared.answer.BlockBody.BlockBody, declared.answer.BlockBody.TheVariants.Journey, declared.answer.BlockBody.TheVariants.Nothing, declared.answer.BlockBody.TheVariants.Refused, declared.fault.QueryFault.QueryFault, Queries.IsQuery, Queries.IsRefused, Boarded.BoardsOnTime, Blocks.IsFramed, Blocks.IsBlockText, Texts.refusal_text, Texts.block_text}
pub use Rattle.journey.specs.declared.query.Query.{Query}

-- what is asked: journeys from a copy of one endpoint to a copy of another, at a time or later, with a word of a form
pub record Asked : Type 0 where
  pub from : Endpoint
  pub to : Endpoint
  pub depart : ℕ
  pub form : Form

-- what a query asks
abbrev pub asked_by : Query → Asked
asked_by q = record { from = q.from; to = q.to; depart = q.depart; form = form_of q.expr }

-- the journey is real, goes from a copy of the origin at the departure or later to a copy of the destination, arrives then, and the expression denotes its word
pub record Answers (n : NetworkLists) (q : Asked) (j : Route) (arrival : ℕ) : Type 0 where
  pub end : ℕ
  pub word : List ℕ
  pub starts_at_copy : IsCopy n q.from j.start
  pub not_before : q.depart ≤ j.at
  pub real : IsJourney n j end arrival word
  pub ends_at_copy : IsCopy n q.to end
  pub denoted : IsWordOf q.form word

-- the journey answers, and every journey that does arrives no earlier
pub record IsBest (n : NetworkLists) (q : Asked) (j : Route) : Type 0 where
  pub arrival : ℕ
  pub answers : Answers n q j arrival
  pub least : (k : Route) (t : ℕ) → Answers n q k t → arrival ≤ t

-- no journey answers
abbrev pub HasNone : NetworkLists → Asked → Type 0
HasNone n q = (k : Route) (t : ℕ) → Answers n q k t → ⊥

-- the line asks this
abbrev pub Asks : NetworkLists → List ℕ → Asked → Type 0
Asks n line q = IsQuery n line q.from q.to q.depart q.form

-- the block of a refused line
pub record IsRefusedBlock (n : NetworkLists) (line block : List ℕ) : Type 0 where
  pub fault : QueryFault
  pub refused : IsRefused n line fault
  pub block_is : block ≡ block_text line (with_feed (refusal_text fault))

-- which bodies are right for what is asked
abbrev pub BodyRule : Type 1
BodyRule = Asked → List ℕ → Type 0

-- the block of a line that asks something, with a right body
pub record IsAnsweredBlock (n : NetworkLists) (IsBody : BodyRule) (line block : List ℕ) : Type 0 where
  pub asked : Asked
  pub asks : Asks n line asked
  pub tells : IsFramed (IsBody asked) line block

-- the block of a refused line, or of one that asks something
abbrev pub IsRightBlock : NetworkLists → BodyRule → List ℕ → List ℕ → Type 0
IsRightBlock n IsBody line block = IsRefusedBlock n line block ⊎ IsAnsweredBlock n IsBody line block

-- what is right to say of a line: a best journey, that there is none, or the fault with which the line is refused
abbrev pub IsRightBody : NetworkLists → List ℕ → BlockBody → Type 0
IsRightBody n line (Journey j) = (asked : Asked) × Asks n line asked × IsBest n asked j
IsRightBody n line Nothing = (asked : Asked) × Asks n line asked × HasNone n asked
IsRightBody n line (Refused fault) = IsRefused n line fault

-- the right block of a query line
pub record IsBlock (n : NetworkLists) (line block : List ℕ) : Type 0 where
  pub body : BlockBody
  pub right : IsRightBody n line body
  pub tells : IsBlockText n line body block

-- each ride of a journey that is told is boarded when it departs
abbrev pub IsBoardedBody : NetworkLists → BlockBody → Type 0
IsBoardedBody n (Journey j) = BoardsOnTime n j
IsBoardedBody n Nothing = Unit {0}
IsBoardedBody n (Refused fault) = Unit {0}

-- the block that `answer` prints for a query line: a right one, whose rides are boarded when they depart
pub record IsToldBlock (n : NetworkLists) (line block : List ℕ) : Type 0 where
  pub body : BlockBody
  pub right : IsRightBody n line body
  pub boarded : IsBoardedBody n body
  pub tells : IsBlockText n line body block
