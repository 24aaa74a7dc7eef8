-- What the reports of each kind say.
use Rattle.std.specs.Prelude.{Option, IfSome, option_map}
use Rattle.mode_network.specs.NetworkLists.{NetworkLists}
use Rattle.hierarchy.specs.{HierarchyLists, IsSound}
use Rattle.journey_book.specs.{Reports.ReportRule, Reports.IsJudged, Reports.says_valid, Reviews.IsReviewed, Reviews.is_no_later, declared.words.ReportKind.ReportKind, declared.words.ReportKind.TheVariants.Recheck, declared.words.ReportKind.TheVariants.Review}
pub use Rattle.journey_book.specs.declared.reports.Report.{Report}

-- which of the certificates hold in a region, and what it does to the journeys that are kept
abbrev pub report_rule : ReportKind → NetworkLists → Option HierarchyLists → ReportRule
report_rule Recheck n h = record { AreRight = IsJudged n h; is_well = says_valid }
report_rule Review n h = record { AreRight = IsReviewed n; is_well = is_no_later }

-- that of a report
abbrev pub rule_of : Report → ReportRule
rule_of report = report_rule report.kind report.network.now (option_map (λ h. h.now) report.hierarchy)

-- its hierarchy, if there is one, is sound
abbrev pub MayReport : Report → Type 0
MayReport report = IfSome report.hierarchy (λ h. IsSound report.network.now h.now)
