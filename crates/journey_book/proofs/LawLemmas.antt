-- What is reported of a book is one text, and a certificate that is valid is `same`.
use Rattle.plan_base.proofs.Common.{◌≡◌, ◌∙◌, refl, sym, ap, ap₂, subst, ℕ, ◌≤◌, ◌||◌, inl, inr, Bool, List, [], ◌∷◌, ◌++◌, Option, None, Some, arith, eq-eqb, Err, Ok, IfSome, codes, decimal, bytes_eq, list_all, list_any, BTreeSet, slice_cmp, nat_list_cmp_total, is_eq, nat_cmp, exact_bytes, is_eq-slice_cmp}
use Rattle.std.proofs.lemmas.Map.Lookups.{btree_set_from_contains}
use Rattle.plain_texts.specs.{with_feed}
use Rattle.search_laws.proofs.WalkLemmas.{walk_rises}
use Rattle.mode_network.specs.{NetworkLists.NetworkLists, IsNetwork, Route, IsJourney}
use Rattle.plain_graph.specs.{plain_meaning, plain_lawful}
use Rattle.plain_graph.proofs.Same.{journeys_are_walks}
use Rattle.hierarchy.specs.{HierarchyLists}
use Rattle.phase_graph.specs.{IsInUse, IsPlain, IsSoundIfGiven}
use Rattle.search_laws.specs.{GraphMeaning}
use Rattle.certificate.specs.{BadLine, Claim, IsCertText, HasCause, IsBestResult}
use Rattle.journey.specs.{Asked, refusal_text}
use Rattle.journey.proofs.ReadingLemmas.{reading_is_unique}
use Rattle.certificate.proofs.{ReadLaws.again, ReadLaws.bad_line_is, UniqueLemmas.verdict_is_unique, VerifyLemmas.valid_proves}
use Rattle.answer_commands.proofs.CompleteLemmas.{same_claim}
use Rattle.journey_book.specs.{Book, AreNamesOf, KeeperMeaning, Tells, HoldsOfOneText, IsFixedEnd, ReportsAreFixed, StartsAt, ValidIsSame, AreReported, ClaimRule, IsJudged, IsReported, IsSaidOn, ReportRule, end_by, verdict_words, IsAnswered, IsReviewed, arrival_words, beside, kept_arrival, report_rule, Recheck, Review}

-- ---- the names of a book

among : (name : List ℕ) (names : List (List ℕ)) → list_any (λ k. is_eq (slice_cmp nat_cmp name k)) names ≡ list_any (bytes_eq name) names
among name [] = refl
among name (k ∷ names) = ap₂ (λ a b. a || b) (is_eq-slice_cmp name k) (among name names)

abbrev set_of : List (List ℕ) → BTreeSet (List ℕ)
set_of names = record { keys = names }

names_once : (book : Book) (one other : List (List ℕ)) → AreNamesOf book one → AreNamesOf book other → one ≡ other
names_once book one other a b =
    btree_set_from_contains nat_list_cmp_total (set_of one) (set_of other) a.ascend b.ascend (λ q. among q one ∙ (a.all q ∙ sym (b.all q)) ∙ sym (among q other)) exact_bytes

-- ---- a report

-- one text is right for a certificate
abbrev pub IsExact : ClaimRule → Type 0
IsExact AreRight = (claim : Claim) → HoldsOfOneText (AreRight claim)

not_bad : (bytes : List ℕ) (c : Claim) (line : ℕ) → IsCertText bytes c → HasCause bytes (BadLine line) → ⊥
not_bad bytes c line text bad = let good = again bytes c text in let named = bad_line_is bytes line bad in cc

told : (keeper : KeeperMeaning) (book : Book) → keeper.book ≡ Some book → (P : Book → Type 0) → Tells keeper P → P book
told keeper book is P tells = subst (λ (b : Option Book). IfSome b P) is tells

module _ (AreRight : ClaimRule) (exact : IsExact AreRight) where
  said_once : (held : Option (List ℕ)) → HoldsOfOneText (IsSaidOn AreRight held)
  said_once None one other e f = e ∙ sym f
  said_once (Some bytes) one other (inl (line, bad, e)) (inl (line2, bad2, f)) =
      let named = bad_line_is bytes line bad in
      let named2 = bad_line_is bytes line2 bad2 in
      let same : line ≡ line2 = cc in
      e ∙ ap (λ at. codes "bad " ++ decimal at) same ∙ sym f
  said_once (Some bytes) one other (inl (line, bad, e)) (inr (claim, spells, right)) = absurd (not_bad bytes claim line spells bad)
  said_once (Some bytes) one other (inr (claim, spells, right)) (inl (line, bad, e)) = absurd (not_bad bytes claim line spells bad)
  said_once (Some bytes) one other (inr (claim, spells, right)) (inr (claim2, spells2, right2)) =
      exact claim2 one other (subst (λ (c : Claim). AreRight c one) (same_claim bytes claim claim2 spells spells2) right) right2

  module _ (keeper : KeeperMeaning) (book : Book) (is : keeper.book ≡ Some book) where
    lines_once : (names said more : List (List ℕ)) (one other : List ℕ) → AreReported AreRight keeper names said one → AreReported AreRight keeper names more other → (said ≡ more) × (one ≡ other)
    lines_once [] [] [] one other e f = (refl, e ∙ sym f)
    lines_once (name ∷ names) (words ∷ said) (words2 ∷ more) one other (rest, says, lines, e) (rest2, says2, lines2, f) =
        let held : says.held ≡ says2.held =
        sym (told keeper book is (λ b. b name ≡ says.held) says.told) ∙ told keeper book is (λ b. b name ≡ says2.held) says2.told in
        let same = said_once says2.held words words2 (subst (λ (h : Option (List ℕ)). IsSaidOn AreRight h words) held says.says) says2.says in
        let both = lines_once names said more rest rest2 lines lines2 in
        (ap₂ (λ (w : List ℕ) (s : List (List ℕ)). w ∷ s) same both.0, e ∙ ap₂ (λ (w r : List ℕ). with_feed (name ++ codes " " ++ w) ++ r) same both.1 ∙ sym f)
    lines_once [] (words ∷ said) more one other none f = absurd none
    lines_once [] [] (words ∷ more) one other e none = absurd none
    lines_once (name ∷ names) [] more one other none f = absurd none
    lines_once (name ∷ names) (words ∷ said) [] one other e none = absurd none

report_once : (rule : ReportRule) → IsExact rule.AreRight → (keeper : KeeperMeaning) (book : Book) → keeper.book ≡ Some book → (fail : Bool) → IsFixedEnd (IsReported rule fail keeper)
report_once rule exact keeper book is fail one other end last (well, (names, are, (said, lines, all)), e) (well2, (names2, are2, (said2, lines2, all2)), f) =
    let same = names_once book names names2 (told keeper book is (λ b. AreNamesOf b names) are) (told keeper book is (λ b. AreNamesOf b names2) are2) in
    let both = lines_once rule.AreRight exact keeper book is names2 said said2 one other (subst (λ (ns : List (List ℕ)). AreReported rule.AreRight keeper ns said one) same lines) lines2 in
    let alike : well ≡ well2 = all ∙ ap (list_all rule.is_well) both.0 ∙ sym all2 in
    (both.1, e ∙ ap (end_by fail) alike ∙ sym f)

-- ---- what is said of a certificate

judged_once : (n : NetworkLists) → IsNetwork n → (h : Option HierarchyLists) → IsSoundIfGiven n h → IsExact (IsJudged n h)
judged_once n network h sound claim one other (verdict, is, e) (verdict2, is2, f) =
    e ∙ ap verdict_words (verdict_is_unique n network h sound claim verdict verdict2 is is2) ∙ sym f

module _ (n : NetworkLists) (network : IsNetwork n) where
  answered_once : (kept : Option (ℕ × Route)) (asked : Asked) → HoldsOfOneText (IsAnswered n kept asked)
  answered_once kept asked one other (inl (none, e)) (inl (none2, f)) = e ∙ sym f
  answered_once kept asked one other (inl (none, e)) (inr (j, best, f)) = absurd (none j best.arrival best.answers)
  answered_once kept asked one other (inr (j, best, e)) (inl (none, f)) = absurd (none j best.arrival best.answers)
  answered_once kept asked one other (inr (j, best, e)) (inr (k, best2, f)) =
      let early = best.least k best2.arrival best2.answers in
      let late = best2.least j best.arrival best.answers in
      let same : best.arrival ≡ best2.arrival = omega arith in
      e ∙ ap (λ t. arrival_words n asked.depart t kept) same ∙ sym f

  reviewed_once : IsExact (IsReviewed n)
  reviewed_once claim one other (inl (fault, refused, e)) (inl (fault2, refused2, f)) =
      let both = reading_is_unique n claim.line (Err fault) (Err fault2) refused refused2 in
      let same : fault ≡ fault2 = cc in
      e ∙ ap refusal_text same ∙ sym f
  reviewed_once claim one other (inl (fault, refused, e)) (inr (asked, asks, answer)) =
      let both = reading_is_unique n claim.line (Err fault) (Ok asked) refused asks in absurd (cc)
  reviewed_once claim one other (inr (asked, asks, answer)) (inl (fault, refused, e)) =
      let both = reading_is_unique n claim.line (Err fault) (Ok asked) refused asks in absurd (cc)
  reviewed_once claim one other (inr (asked, asks, answer)) (inr (asked2, asks2, answer2)) =
      let both = reading_is_unique n claim.line (Ok asked) (Ok asked2) asks asks2 in
      let same : asked ≡ asked2 = cc in
      answered_once claim.result asked2 one other (subst (λ (q : Asked). IsAnswered n claim.result q one) same answer) answer2

pub reports_are_fixed : ReportsAreFixed
reports_are_fixed n network h sound keeper book is Recheck fail = report_once (report_rule Recheck n h) (judged_once n network h sound) keeper book is fail
reports_are_fixed n network h sound keeper book is Review fail = report_once (report_rule Review n h) (reviewed_once n network) keeper book is fail

-- ---- a certificate that is valid

module _ (n : NetworkLists) (network : IsNetwork n) where
  -- a journey arrives no earlier than it starts
  rises : (g : GraphMeaning) → IsPlain n g → (j : Route) (w u : ℕ) (word : List ℕ) → IsJourney n j w u word → j.at ≤ u
  rises g plain j w u word real =
      let walk = journeys_are_walks n network plain.table plain.keeps plain.of j.start j.at j.steps w u real.letters real.steps in
      walk_rises (plain_meaning n plain.table) (plain_lawful n network plain.table plain.keeps plain.of) walk.walk j.start j.at w u walk.leads

  beside_same : (arrival kept : ℕ) → arrival ≡ kept → beside n arrival kept ≡ codes "same"
  beside_same arrival kept e = rw (eq-eqb arrival kept e) refl

  -- what is said of a result that is a best one
  stays : (g : GraphMeaning) → IsPlain n g → (asked : Asked) (result : Option (ℕ × Route)) → StartsAt asked.depart result → IsBestResult n asked result → IsAnswered n result asked (codes "same")
  stays g plain asked None starts none = inl (none, refl)
  stays g plain asked (Some kept) starts (best, is) =
      let at : kept.1.at ≡ asked.depart = starts in
      let real = best.answers.real in
      let later : kept.1.at ≤ best.arrival = rises g plain kept.1 best.answers.end best.arrival best.answers.word real in
      let same : best.arrival ≡ kept_arrival asked.depart kept = omega arith in
      inr (kept.1, best, sym (beside_same best.arrival (kept_arrival asked.depart kept) same))

-- a graph of the network, where that of a hierarchy is in use too
plain_of : (n : NetworkLists) (h : Option HierarchyLists) (targets : List ℕ) (g : GraphMeaning) → IsInUse n h targets g → (plain : GraphMeaning) × IsPlain n plain
plain_of n None targets g plain = (g, plain)
plain_of n (Some h) targets g phases = (plain_meaning n phases.table, record { table = phases.table; of = phases.of; keeps = phases.keeps; is = refl })

pub valid_is_same : ValidIsSame
valid_is_same n network h sound claim valid starts words said =
    let proves = valid_proves n network h sound claim valid in
    let both = reading_is_unique n claim.line (Ok valid.setting.asked) (Ok proves.asked) valid.setting.asks proves.asks in
    let same : valid.setting.asked ≡ proves.asked = cc in
    let at = subst (λ (q : Asked). StartsAt q.depart claim.result) same starts in
    let plain = plain_of n h valid.setting.targets valid.setting.graph valid.setting.in_use in
    reviewed_once n network claim words (codes "same") said (inr (proves.asked, proves.asks, stays n network plain.0 plain.1 proves.asked claim.result at proves.best))
