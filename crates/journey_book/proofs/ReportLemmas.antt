-- Words that are right, and a report with one line more.
use Rattle.plan_base.proofs.Common.{◌≡◌, ◌∙◌, refl, sym, ap, subst, ℕ, Bool, true, false, List, [], ◌∷◌, ◌++◌, append_assoc, append-nil, ⊤, ◌&&◌, Result, Ok, Err, OnOk, codes, list_all, list_all-append}
use Rattle.plain_texts.specs.{lines_text, with_feed}
use Rattle.journey.specs.{AddsText}
use Rattle.journey_book.specs.{BookStays, KeeperMeaning, AreReported, ClaimRule, HasReported, IsSaidOf, ReportRule}
use Rattle.journey_book.proofs.KeeperLemmas.{told_before}

-- what a call that may fail adds to a text
module _ {E : Type 0} (old new : List ℕ) where
  pub adds : (P : List ℕ → Type 0) (words : List ℕ) → P words → (r : Result ⊤ E) → OnOk r (new ≡ old ++ words) → OnOk r (AddsText P old new)
  adds P words is (Ok done) added = record { text = words; is = is; added = added }
  adds P words is (Err error) none = none

  pub adds_as : (P Q : List ℕ → Type 0) → ((words : List ℕ) → P words → Q words) → (r : Result ⊤ E) → OnOk r (AddsText P old new) → OnOk r (AddsText Q old new)
  adds_as P Q turn (Ok done) adds = record { text = adds.text; is = turn adds.text adds.is; added = adds.added }
  adds_as P Q turn (Err error) none = none

-- what was added to nothing
pub all_added : (P : List ℕ → Type 0) (old new : List ℕ) → old ≡ [] → AddsText P old new → P new
all_added P old new none adds = subst P (sym (adds.added ∙ ap (λ (o : List ℕ). o ++ adds.text) none)) adds.is

module _ (AreRight : ClaimRule) (keeper : KeeperMeaning) where
  one_more : (names said : List (List ℕ)) (out name words : List ℕ) → AreReported AreRight keeper names said out → IsSaidOf AreRight keeper name words
      → AreReported AreRight keeper (names ++ name ∷ []) (said ++ words ∷ []) (out ++ with_feed (name ++ codes " " ++ words))
  one_more [] [] out name words none is =
      let line = with_feed (name ++ codes " " ++ words) in
      ([], is, refl, ap (λ (o : List ℕ). o ++ line) none ∙ sym (append-nil line))
  one_more (first ∷ names) (own ∷ said) out name words (rest, says, more, are) is =
      let line = with_feed (name ++ codes " " ++ words) in
      (rest ++ line, says, one_more names said rest name words more is, ap (λ (o : List ℕ). o ++ line) are ∙ append_assoc (with_feed (first ++ codes " " ++ own)) rest line)
  one_more [] (own ∷ said) out name words none is = absurd none
  one_more (first ∷ names) [] out name words none is = absurd none

and_true : (b : Bool) → (b && true) ≡ b
and_true true = refl
and_true false = refl

-- a report with one line more
pub has_more : (rule : ReportRule) (keeper : KeeperMeaning) (names : List (List ℕ)) (out : List ℕ) (well : Bool) (name words : List ℕ) → HasReported rule keeper names out well
    → IsSaidOf rule.AreRight keeper name words → HasReported rule keeper (names ++ name ∷ []) (out ++ with_feed (name ++ codes " " ++ words)) (well && rule.is_well words)
has_more rule keeper names out well name words (said, lines, all) is =
    let one = sym (and_true (rule.is_well words)) in (
      said ++ words ∷ [],
      one_more rule.AreRight keeper names said out name words lines is,
      ap (λ (b : Bool). b && rule.is_well words) all ∙ ap (λ (b : Bool). list_all rule.is_well said && b) one ∙ sym (list_all-append rule.is_well said (words ∷ [])),
    )

-- what is reported after the book stayed is true of it before
reported_before : (AreRight : ClaimRule) (old mid : KeeperMeaning) → BookStays old mid → (names said : List (List ℕ)) (out : List ℕ) → AreReported AreRight mid names said out → AreReported AreRight old names said out
reported_before AreRight old mid stays [] [] out none = none
reported_before AreRight old mid stays (name ∷ names) (words ∷ said) out (rest, is, more, are) =
    (rest, record { held = is.held; told = told_before old mid name is.held stays is.told; says = is.says }, reported_before AreRight old mid stays names said rest more, are)
reported_before AreRight old mid stays [] (words ∷ said) out none = absurd none
reported_before AreRight old mid stays (name ∷ names) [] out none = absurd none

pub has_before : (rule : ReportRule) (old mid : KeeperMeaning) → BookStays old mid → (names : List (List ℕ)) (out : List ℕ) (well : Bool) → HasReported rule mid names out well → HasReported rule old names out well
has_before rule old mid stays names out well (said, lines, all) = (said, reported_before rule.AreRight old mid stays names said out lines, all)

-- one line more
pub lines_more : (lines : List (List ℕ)) (line : List ℕ) → lines_text (lines ++ line ∷ []) ≡ lines_text lines ++ with_feed line
lines_more [] line = append-nil (with_feed line)
lines_more (first ∷ lines) line = ap (λ (o : List ℕ). with_feed first ++ o) (lines_more lines line) ∙ sym (append_assoc (with_feed first) (lines_text lines) (with_feed line))
