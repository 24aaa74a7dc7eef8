-- What each command says of a run by its outcome.
use Rattle.std.specs.Prelude.{◌≡◌, ℕ, ◌⊎◌, List, None, Some, IsSome}
use Rattle.plan_base.specs.{Caps}
use Rattle.journey_book.specs.{Books.dropped, Books.kept, Keepers.Tells, Reports.IsListing, Reports.IsReported, Rules.report_rule, Requests.BookRequest, Requests.keep, Requests.drop, Requests.list, Requests.show, Requests.report, Sayings.BookSaying, Sayings.BookEnds, Sayings.OnBoth, Sayings.OnValid, Sayings.Changes, Sayings.ThenDone, Sayings.BookWrites, declared.outcome.BookOutcome.TheVariants.Absent}

-- nothing is kept under the name, if the keeper tells
abbrev pub IsNotKept : List ℕ → BookSaying
IsNotKept name old new outcome = Tells old.more (λ book. book name ≡ None) × BookEnds Absent old new outcome

-- What a run says that was asked for this. `keep` keeps the certificate's bytes under the name, where it is valid
-- in the region; `drop` removes a name that is there; `list` writes the names; `show` what is kept under a name that
-- is there; a report what its rule says of each certificate, and it may be asked to fail where a line is not well:
-- `recheck` which of the certificates hold in the region, `review` what the region does to their journeys. Certificates
-- are those over the hierarchy, if one is named.
abbrev pub book_says : Caps → BookRequest → BookSaying
book_says caps (keep name region certificate hierarchy) old new outcome =
    OnBoth caps region hierarchy
    (λ n h. OnValid n h certificate (λ bytes. Changes (λ book. Unit {0}) (kept name bytes))) old new outcome
book_says caps (drop name) old new outcome =
    IsNotKept name old new outcome ⊎ Changes (λ book. IsSome (book name)) (dropped name) old new outcome
book_says caps list old new outcome = BookWrites (ThenDone (IsListing old.more)) old new outcome
book_says caps (show name) old new outcome =
    IsNotKept name old new outcome
    ⊎ BookWrites (ThenDone (λ text. Tells old.more (λ book. book name ≡ Some text))) old new outcome
book_says caps (report kind region hierarchy fail) old new outcome =
    OnBoth caps region hierarchy
    (λ n h. BookWrites (IsReported (report_rule kind n h) fail old.more)) old new outcome
