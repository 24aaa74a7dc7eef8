-- Laws of reports.
use Rattle.std.specs.Prelude.{◌≡◌, ℕ, Bool, List, codes, Option, None, Some}
use Rattle.mode_network.specs.{NetworkLists.NetworkLists, IsNetwork, Route}
use Rattle.hierarchy.specs.{HierarchyLists}
use Rattle.phase_graph.specs.{IsSoundIfGiven}
use Rattle.certificate.specs.{Claim, IsValid}
use Rattle.journey_book.specs.{Books.Book, Keepers.KeeperMeaning, Reports.IsReported, Reviews.IsReviewed, Rules.report_rule, declared.words.ReportKind.ReportKind, declared.outcome.BookOutcome.BookOutcome}

-- one text alone is so
abbrev pub HoldsOfOneText : (List ℕ → Type 0) → Type 0
HoldsOfOneText IsText = (one other : List ℕ) → IsText one → IsText other → one ≡ other

-- one text alone is so, and ends a run in one way
abbrev pub IsFixedEnd : (List ℕ → BookOutcome → Type 0) → Type 0
IsFixedEnd IsText =
    (one other : List ℕ) (end last : BookOutcome) → IsText one end → IsText other last
    → (one ≡ other) × (end ≡ last)

-- what a report says of a book is fixed by the book, the region and the hierarchy, if there is one
abbrev pub ReportsAreFixed : Type 0
ReportsAreFixed = (n : NetworkLists) → IsNetwork n → (h : Option HierarchyLists) → IsSoundIfGiven n h
    → (keeper : KeeperMeaning) (book : Book) → keeper.book ≡ Some book → (kind : ReportKind) (fail : Bool)
    → IsFixedEnd (IsReported (report_rule kind n h) fail keeper)

-- the journey that is claimed, if one is, starts then
abbrev pub StartsAt : ℕ → Option (ℕ × Route) → Type 0
StartsAt depart (Some claimed) = claimed.1.at ≡ depart
StartsAt depart None = Unit {0}

-- a certificate that is valid in a region, and whose journey starts when its query departs, is `same` there
abbrev pub ValidIsSame : Type 0
ValidIsSame = (n : NetworkLists) → IsNetwork n → (h : Option HierarchyLists) → IsSoundIfGiven n h
    → (claim : Claim) (valid : IsValid n h claim) → StartsAt valid.setting.asked.depart claim.result
    → (words : List ℕ) → IsReviewed n claim words → words ≡ codes "same"
