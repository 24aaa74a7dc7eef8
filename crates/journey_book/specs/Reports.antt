-- What is written of a book: its names, and what a region makes of what it keeps.
use Rattle.std.specs.Prelude.{◌≡◌, ℕ, ◌⊎◌, ◌&&◌, Bool, not, List, [], ◌∷◌, ◌++◌, codes, decimal, Option, None, Some, if◌then◌else◌, bytes_eq}
use Rattle.std.specs.List.{list_all}
use Rattle.plain_texts.specs.{lines_text, with_feed}
use Rattle.mode_network.specs.NetworkLists.{NetworkLists}
use Rattle.hierarchy.specs.{HierarchyLists}
use Rattle.certificate.specs.{BadLine, CertVerdict, Invalid, Claim, IsCertText, HasCause, IsCertVerdict, declared.verdict.CertVerdict.TheVariants.Valid}
use Rattle.run_steps.specs.{Done}
use Rattle.journey_book.specs.{Books.AreNamesOf, Keepers.KeeperMeaning, Keepers.Tells, declared.outcome.BookOutcome.BookOutcome, declared.outcome.BookOutcome.TheVariants.Common, declared.outcome.BookOutcome.TheVariants.NotWell}

-- the names of the book, each on a line
abbrev pub IsListing : KeeperMeaning → List ℕ → Type 0
IsListing keeper out =
    (names : List (List ℕ)) × Tells keeper (λ book. AreNamesOf book names) × (out ≡ lines_text names)

-- ---- a report: something is said of each certificate that is kept

-- which words are right for a certificate
abbrev pub ClaimRule : Type 1
ClaimRule = Claim → List ℕ → Type 0

-- what is said of bytes: they spell no certificate, and this is the first bad line; or words that are right for theirs
abbrev pub IsSaid : ClaimRule → List ℕ → List ℕ → Type 0
IsSaid AreRight bytes words =
    ((line : ℕ) × HasCause bytes (BadLine line) × (words ≡ codes "bad " ++ decimal line))
    ⊎ ((claim : Claim) × IsCertText bytes claim × AreRight claim words)

-- what is said of what is kept under a name; that nothing is, if the keeper answers so
abbrev pub IsSaidOn : ClaimRule → Option (List ℕ) → List ℕ → Type 0
IsSaidOn AreRight (Some bytes) words = IsSaid AreRight bytes words
IsSaidOn AreRight None words = words ≡ codes "absent"

-- these words are right for what is kept under a name
pub record IsSaidOf (AreRight : ClaimRule) (keeper : KeeperMeaning) (name words : List ℕ) : Type 0 where
  pub held : Option (List ℕ)
  pub told : Tells keeper (λ book. book name ≡ held)
  pub says : IsSaidOn AreRight held words

-- a line for each of these names, in order, with what is said of it
abbrev pub AreReported : ClaimRule → KeeperMeaning → List (List ℕ) → List (List ℕ) → List ℕ → Type 0
AreReported AreRight keeper [] [] out = out ≡ []
AreReported AreRight keeper (name ∷ names) (words ∷ said) out =
    (rest : List ℕ) × IsSaidOf AreRight keeper name words × AreReported AreRight keeper names said rest
    × (out ≡ with_feed (name ++ codes " " ++ words) ++ rest)
AreReported AreRight keeper _ _ out = ⊥

-- which words are right for a certificate, and which of the words of a line are well
pub record ReportRule : Type 1 where
  pub AreRight : ClaimRule
  pub is_well : List ℕ → Bool

-- a line for each of these names, in order; and whether all of them are well
abbrev pub HasReported : ReportRule → KeeperMeaning → List (List ℕ) → List ℕ → Bool → Type 0
HasReported rule keeper names out well =
    (said : List (List ℕ)) × AreReported rule.AreRight keeper names said out
    × (well ≡ list_all rule.is_well said)

-- a line for each name of the book, in order; and whether all of them are well
abbrev pub IsReport : ReportRule → KeeperMeaning → List ℕ → Bool → Type 0
IsReport rule keeper out well =
    (names : List (List ℕ)) × Tells keeper (λ book. AreNamesOf book names)
    × HasReported rule keeper names out well

-- how a report ends a run, which may be asked to fail where a line is not well
abbrev pub end_by : Bool → Bool → BookOutcome
end_by fail well = if fail && not well then NotWell else Common Done

-- a report, and the end of the run that writes it
abbrev pub IsReported : ReportRule → Bool → KeeperMeaning → List ℕ → BookOutcome → Type 0
IsReported rule fail keeper out end =
    (well : Bool) × IsReport rule keeper out well × (end ≡ end_by fail well)

-- ---- which certificates hold

-- the words of a verdict on a certificate
abbrev pub verdict_words : CertVerdict → List ℕ
verdict_words Valid = codes "valid"
verdict_words (Invalid clause at) = codes "invalid " ++ decimal clause ++ codes " " ++ decimal at

-- the words of the verdict on a certificate in a region, over a hierarchy, if there is one
abbrev pub IsJudged : NetworkLists → Option HierarchyLists → ClaimRule
IsJudged n h claim words =
    (verdict : CertVerdict) × IsCertVerdict n h claim verdict × (words ≡ verdict_words verdict)

-- a line is well that says `valid`
abbrev pub says_valid : List ℕ → Bool
says_valid words = bytes_eq words (codes "valid")
