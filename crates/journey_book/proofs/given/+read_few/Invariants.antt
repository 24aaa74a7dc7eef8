use Rattle.plan_base.proofs.Common.{length}
use Rattle.journey_book.proofs.given.+read_few.Given as goal

abbrev pub decreases-read_few : goal.decreases-read_few
decreases-read_few l = length l.words.now
