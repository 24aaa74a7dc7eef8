-- What a journey that is claimed is checked by.
use Rattle.std.specs.Prelude.{[]}
use Rattle.search_laws.specs.{LabelsMeaning}
use Rattle.mode_expression.specs.{form_of}
use Rattle.journey.specs.{AreTheCopies}
pub use Rattle.certificate.specs.declared.claimed.JourneyCheck.{JourneyCheck}
use Rattle.certificate.specs.{StateSets.AreAfter, Verdicts.AreDenoted}

-- the origins and the destinations are the copies of the query's endpoints, its expression denotes what the automaton accepts, and no letter is read yet
pub record IsSetUp {L : Type 0} (l : LabelsMeaning) (check : JourneyCheck L) : Type 0 where
  pub origins : AreTheCopies check.network.now check.query.now.from check.origins.now
  pub destinations : AreTheCopies check.network.now check.query.now.to check.destinations.now
  pub denotes : AreDenoted (form_of check.query.now.expr) l
  pub states : AreAfter l [] check.states
