-- What the bytes of a region spell: the laws of the whole.
use Rattle.plan_base.proofs.Common.{◌≡◌, ℕ, List, [], ◌∷◌, ◌++◌, length, map, take, drop, refl, ap, sym, ◌∙◌, subst, inl, inr, Option, Some, None, Result, Ok, Err, fold, IfOk, IfErr, bytes_eq, AllByRecursion, take-append-drop, none-some, cond_some, bytes_eq-Decides}
use Rattle.plain_texts.specs.{IsLine, lines_text, pieces, whole, bad, trailing, lines_from, Course.Course}
use Rattle.plain_texts.proofs.{Pieces.pieces_lines, Pieces.text_of_lines, Spaced.spaced_is_line, Course.has_pieces, Course.course_takes, Course.course_bad, Course.course_trailing, Course.course_again}
use Rattle.plan_base.specs.{Caps}
use Rattle.mode_network.specs.{NetFault, first_fault, NetworkLists.NetworkLists}
use Rattle.region_file.specs.{RegionFault, BadHead, BadRecord, Network, Trailing, OutOfMemory, Line, FitsLine, IsRegion, head_line, region_lines, region_text, spelled, is_end, line_at, progress_after, start, AreSpelling, Gives, HasCause, IsDecoded, IsRefusedRegion, SpellNone, behind_head, lists_by, lists_in_text, network_of, nothing, or_fault, put, put_all, region_of, region_bytes}
use Rattle.file_records.proofs.NumberLaws.{IsBytes}
use Rattle.region_file.proofs.{RecordsDecoded.lists_in_again, RecordsDecoded.not_text, RecordsDecoded.records_cause, RecordsDecoded.records_found, KindLaws.words_are_words, SectionLaws.reads_lines, Found.all_lines, PartsMade.are_parts, Again.behind_end, Again.runs_to_end, Again.made_again}

-- what a course gives
same_Ok : {A E : Type 0} (x y : A) → ◌≡◌ {A = Result A E} (Ok x) (Ok y) → x ≡ y
same_Ok x y e = cc

same_Err : {A E : Type 0} (x y : E) → ◌≡◌ {A = Result A E} (Err x) (Err y) → x ≡ y
same_Err x y e = cc

-- What is read is spelled so.
pub lists_found : (text : List ℕ) (n : NetworkLists) → lists_in_text text ≡ Ok n → IsRegion n × (text ≡ lines_text (map spelled (region_lines n)))
unfolding lists_in_text
lists_found text n e = by_course (lines_from line_at is_end start 2 (pieces text)) refl e
  where
    by_course : (c : Course Line) → lines_from line_at is_end start 2 (pieces text) ≡ c → put_all nothing c ≡ Ok n → IsRegion n × (text ≡ lines_text (map spelled (region_lines n)))
    by_course (whole ls) is e =
        let h = course_takes spelled FitsLine progress_after is_end line_at reads_lines (pieces text) start 2 ls is in
        let lines = all_lines ls h.place h.runs h.last in
        let made : fold put nothing ls ≡ n = same_Ok (fold put nothing ls) n e in
        subst (λ m. IsRegion m × (text ≡ lines_text (map spelled (region_lines m)))) made
        (record { parts = are_parts ls h.fits; fits = subst (λ x. AllByRecursion FitsLine x) (sym lines) h.fits }, text_of_lines text (map spelled ls) h.are ∙ ap (λ x. lines_text (map spelled x)) (sym lines))
    by_course (bad k) is e = absurd (cc)
    by_course (trailing k) is e = absurd (cc)

each_is_line : (ls : List Line) → AllByRecursion FitsLine ls → AllByRecursion IsLine (map spelled ls)
each_is_line [] h = tt
each_is_line (l ∷ ls) h = (spaced_is_line _ (words_are_words l h.0), each_is_line ls h.1)

-- What is spelled so is read.
pub lists_again : (n : NetworkLists) → IsRegion n → lists_in_text (lines_text (map spelled (region_lines n))) ≡ Ok n
unfolding lists_in_text
lists_again n h =
    ap (λ x. put_all nothing (lines_from line_at is_end start 2 x)) (pieces_lines (map spelled (region_lines n)) (each_is_line (region_lines n) h.fits))
    ∙ ap (put_all nothing) (course_again spelled FitsLine progress_after is_end line_at reads_lines (region_lines n) start behind_end 2 refl (runs_to_end n h.parts) refl h.fits)
    ∙ ap Ok (made_again n h.parts)

-- the head
pub head_found : (bytes text : List ℕ) → behind_head bytes ≡ Some text → bytes ≡ head_line ++ text
unfolding behind_head
head_found bytes text e =
    let found = cond_some (bytes_eq (take (length head_line) bytes) head_line) (drop (length head_line) bytes) text e in
    sym (take-append-drop (length head_line) bytes) ∙ ap (λ x. x ++ drop (length head_line) bytes) ((bytes_eq-Decides (take (length head_line) bytes) head_line).0 found.0) ∙ ap (λ x. head_line ++ x) found.1

pub head_again : (text : List ℕ) → behind_head (head_line ++ text) ≡ Some text
unfolding behind_head
head_again text = refl

-- the course that a fault comes from
text_cause : (caps : Caps) (bytes text : List ℕ) (fault : RegionFault) → bytes ≡ head_line ++ text → lists_in_text text ≡ Err fault → HasCause caps bytes fault
unfolding lists_in_text
text_cause caps bytes text fault head e = by_course (lines_from line_at is_end start 2 (pieces text)) refl e
  where
    by_course : (c : Course Line) → lines_from line_at is_end start 2 (pieces text) ≡ c → put_all nothing c ≡ Err fault → HasCause caps bytes fault
    by_course (whole ls) is e = absurd (cc)
    by_course (bad k) is e =
        subst (λ f. HasCause caps bytes f) (same_Err {A = NetworkLists} (BadRecord k) fault e)
        (inl (text, record { is = head }, course_bad spelled FitsLine progress_after is_end line_at reads_lines (pieces text) start 2 k refl (has_pieces text) is))
    by_course (trailing k) is e =
        subst (λ f. HasCause caps bytes f) (same_Err {A = NetworkLists} (Trailing k) fault e)
        (inl (text, record { is = head }, course_trailing spelled FitsLine progress_after is_end line_at reads_lines (pieces text) start 2 k is))

spelled_so : (bytes text : List ℕ) (n : NetworkLists) → bytes ≡ head_line ++ text → lists_in_text text ≡ Ok n → IsRegion n × (bytes ≡ region_text n)
unfolding region_text
spelled_so bytes text n head e =
    let found = lists_found text n e in
    (found.0, head ∙ ap (λ x. head_line ++ x) found.1)

-- What is read in either format is spelled so.
pub either_found : (bytes : List ℕ) → IsBytes bytes → (n : NetworkLists) → lists_by bytes (behind_head bytes) ≡ Ok n → IsRegion n × AreSpelling bytes n
either_found bytes fits n e = by_head (behind_head bytes) refl e
  where
    by_head : (o : Option (List ℕ)) → behind_head bytes ≡ o → lists_by bytes o ≡ Ok n → IsRegion n × AreSpelling bytes n
    by_head None is e = (let found = records_found bytes fits n e in (found.0, inr found.1))
    by_head (Some text) is e = (let found = spelled_so bytes text n (head_found bytes text is) e in (found.0, inl found.1))

either_cause : (caps : Caps) (bytes : List ℕ) → IsBytes bytes → (fault : RegionFault) → lists_by bytes (behind_head bytes) ≡ Err fault → HasCause caps bytes fault
either_cause caps bytes fits fault e = by_head (behind_head bytes) refl e
  where
    by_head : (o : Option (List ℕ)) → behind_head bytes ≡ o → lists_by bytes o ≡ Err fault → HasCause caps bytes fault
    by_head None is e = records_cause bytes fits caps fault (λ text h. none-some text (sym is ∙ ap behind_head h.is ∙ head_again text)) e
    by_head (Some text) is e = text_cause caps bytes text fault (head_found bytes text is) e

-- A refusal has its cause.
pub region_cause : (caps : Caps) (bytes : List ℕ) → IsBytes bytes → (fault : RegionFault) → region_of caps bytes ≡ Err fault → HasCause caps bytes fault
unfolding region_of
region_cause caps bytes fits fault e = by_lists (lists_by bytes (behind_head bytes)) refl e
  where
    by_rules : (n : NetworkLists) → lists_by bytes (behind_head bytes) ≡ Ok n → (o : Option NetFault) → first_fault caps n ≡ o → or_fault n o ≡ Err fault → HasCause caps bytes fault
    by_rules n is None rules e = absurd (cc)
    by_rules n is (Some broken) rules e =
        let found = either_found bytes fits n is in
        subst (λ f. HasCause caps bytes f) (same_Err {A = NetworkLists} (Network broken) fault e) (n, found.0, found.1, rules)

    by_lists : (r : Result NetworkLists RegionFault) → lists_by bytes (behind_head bytes) ≡ r → network_of caps r ≡ Err fault → HasCause caps bytes fault
    by_lists (Ok n) is e = by_rules n is (first_fault caps n) refl e
    by_lists (Err f) is e = either_cause caps bytes fits fault (is ∙ e)

-- What is answered as a network is one, and spelled so.
pub region_found : (caps : Caps) (bytes : List ℕ) → IsBytes bytes → (n : NetworkLists) → region_of caps bytes ≡ Ok n → IsDecoded caps bytes n
unfolding region_of
region_found caps bytes fits n e = by_lists (lists_by bytes (behind_head bytes)) refl e
  where
    by_rules : (m : NetworkLists) → lists_by bytes (behind_head bytes) ≡ Ok m → (o : Option NetFault) → first_fault caps m ≡ o → or_fault m o ≡ Ok n → IsDecoded caps bytes n
    by_rules m is None rules e =
        let found = either_found bytes fits m is in
        subst (λ x. IsDecoded caps bytes x) (same_Ok {E = RegionFault} m n e) (record { region = found.0; spelled = found.1; faultless = rules })
    by_rules m is (Some broken) rules e = absurd (cc)

    by_lists : (r : Result NetworkLists RegionFault) → lists_by bytes (behind_head bytes) ≡ r → network_of caps r ≡ Ok n → IsDecoded caps bytes n
    by_lists (Ok m) is e = by_rules m is (first_fault caps m) refl e
    by_lists (Err f) is e = absurd (cc)

-- A network that is spelled in either format and keeps the rules is answered.
either_again : (bytes : List ℕ) (n : NetworkLists) → IsRegion n → AreSpelling bytes n → lists_by bytes (behind_head bytes) ≡ Ok n
unfolding region_text
either_again bytes n region (inl text) =
    ap (λ x. lists_by x (behind_head x)) text
    ∙ ap (lists_by (region_text n)) (head_again (lines_text (map spelled (region_lines n))))
    ∙ lists_again n region
either_again bytes n region (inr h) =
    ap (λ x. lists_by x (behind_head x)) h.spelled
    ∙ ap (lists_by (region_bytes n)) (not_text n)
    ∙ lists_in_again n region h.counts

pub region_again : (caps : Caps) (bytes : List ℕ) (n : NetworkLists) → IsDecoded caps bytes n → region_of caps bytes ≡ Ok n
unfolding region_of
region_again caps bytes n h =
    ap (network_of caps) (either_again bytes n h.region h.spelled)
    ∙ ap (or_fault n) h.faultless

spell_none : (caps : Caps) (bytes : List ℕ) (fault : RegionFault) → region_of caps bytes ≡ Err fault → SpellNone caps bytes
spell_none caps bytes fault e n is = let again = region_again caps bytes n is in absurd (cc)

-- The clauses of decode, from what it gives.
pub gives_found : (caps : Caps) (bytes : List ℕ) → IsBytes bytes → (r : Result NetworkLists RegionFault) → Gives r (region_of caps bytes) → IfOk r (IsDecoded caps bytes)
gives_found caps bytes fits (Ok n) e = region_found caps bytes fits n e
gives_found caps bytes fits (Err fault) e = tt

pub gives_only : (caps : Caps) (bytes : List ℕ) (r : Result NetworkLists RegionFault) → Gives r (region_of caps bytes) → (n : NetworkLists) → IsDecoded caps bytes n → Gives r (Ok n)
gives_only caps bytes r e n h = subst (λ x. Gives r x) (region_again caps bytes n h) e

pub gives_cause : (caps : Caps) (bytes : List ℕ) → IsBytes bytes → (r : Result NetworkLists RegionFault) → Gives r (region_of caps bytes) → IfErr r (HasCause caps bytes)
gives_cause caps bytes fits (Ok n) e = tt
gives_cause caps bytes fits (Err BadHead) e = region_cause caps bytes fits BadHead e
gives_cause caps bytes fits (Err (BadRecord at)) e = region_cause caps bytes fits (BadRecord at) e
gives_cause caps bytes fits (Err (Network broken)) e = region_cause caps bytes fits (Network broken) e
gives_cause caps bytes fits (Err (Trailing at)) e = region_cause caps bytes fits (Trailing at) e
gives_cause caps bytes fits (Err OutOfMemory) e = tt

pub gives_none : (caps : Caps) (bytes : List ℕ) → IsBytes bytes → (r : Result NetworkLists RegionFault) → Gives r (region_of caps bytes)
    → IfErr r (IsRefusedRegion caps bytes)
gives_none caps bytes fits (Ok n) e = tt
gives_none caps bytes fits (Err OutOfMemory) e = tt
gives_none caps bytes fits (Err BadHead) e = (spell_none caps bytes BadHead e, region_cause caps bytes fits BadHead e)
gives_none caps bytes fits (Err (BadRecord at)) e = (spell_none caps bytes (BadRecord at) e, region_cause caps bytes fits (BadRecord at) e)
gives_none caps bytes fits (Err (Network broken)) e = (spell_none caps bytes (Network broken) e, region_cause caps bytes fits (Network broken) e)
gives_none caps bytes fits (Err (Trailing at)) e = (spell_none caps bytes (Trailing at) e, region_cause caps bytes fits (Trailing at) e)
