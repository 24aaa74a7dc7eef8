-- The block of a query line: the line, what is answered, and the line `end`.
use Rattle.std.specs.Prelude.{◌≡◌, ◌≢◌, ℕ, ◌<◌, List, ◌++◌, length, codes}
use Rattle.plain_texts.specs.{with_feed}
use Rattle.mode_network.specs.{NetworkLists.NetworkLists, nodes_of, Route}
use Rattle.journey.specs.{declared.fault.QueryFault.TheVariants.OutOfMemory, Ends.AreTaken, Ends.HasTimes, Texts.IsJourneyText, Texts.refusal_text, Texts.block_text}
pub use Rattle.journey.specs.{declared.answer.BlockBody.BlockBody, declared.answer.BlockBody.TheVariants.Journey, declared.answer.BlockBody.TheVariants.Nothing, declared.answer.BlockBody.TheVariants.Refused}

-- a journey that can be printed: it is real, and its times are below 10 ^ 30
pub record IsPrintable (n : NetworkLists) (j : Route) : Type 0 where
  pub node : j.start < length (nodes_of n)
  pub times : HasTimes j
  pub taken : AreTaken n j.start j.at j.steps

abbrev pub IsPrintableBody : NetworkLists → BlockBody → Type 0
IsPrintableBody n (Journey j) = IsPrintable n j
IsPrintableBody n Nothing = Unit {0}
IsPrintableBody n (Refused fault) = fault ≢ OutOfMemory

-- what is printed for a journey, for the answer that there is none, and for a refusal
abbrev pub IsBodyText : NetworkLists → BlockBody → List ℕ → Type 0
IsBodyText n (Journey j) text = IsJourneyText n j text
IsBodyText n Nothing text = text ≡ with_feed (codes "no journey")
IsBodyText n (Refused fault) text = text ≡ with_feed (refusal_text fault)

-- the block of a line whose body has the property
pub record IsFramed (IsBody : List ℕ → Type 0) (line block : List ℕ) : Type 0 where
  pub text : List ℕ
  pub is_body : IsBody text
  pub block_is : block ≡ block_text line text

-- the block of a line with this body
abbrev pub IsBlockText : NetworkLists → List ℕ → BlockBody → List ℕ → Type 0
IsBlockText n line body block = IsFramed (IsBodyText n body) line block

-- a text that has the property was added at the end
pub record AddsText (P : List ℕ → Type 0) (old new : List ℕ) : Type 0 where
  pub text : List ℕ
  pub is : P text
  pub added : new ≡ old ++ text
