use Rattle.journey_book.proofs.showing.report_over.Goals as goal

pub returns : goal.returns
returns g c shelf = c.write_report.ensures shelf
