use Rattle.journey_book.specs.{IsSaidOn, rule_of}
use Rattle.journey_book.proofs.ReportLemmas.{all_added}
use Rattle.journey_book.proofs.reports.said_on.Goals as goal

pub returns : goal.returns
returns c = all_added (IsSaidOn (rule_of c.args.report.now).AreRight _) _ _ c.new-words.ensures.items c.in_ok-push_held.ensures
