-- The laws of reading line by line, for every kind of lines and of places.
use Rattle.std.proofs.Common.{◌≡◌, ℕ, List, [], ◌∷◌, ◌++◌, length, map, refl, ap, sym, ◌∙◌, subst, ◌<◌, ◌+◌, arith, Bool, true, false, cond, ◌⊎◌, inl, inr, Option, Some, None}
use Rattle.std.specs.List.{AllByRecursion}
use Rattle.std.proofs.lemmas.Bool.{false≢true}
use Rattle.std.proofs.lemmas.Option.{none-some, same_Some}
use Rattle.plain_texts.specs.{pieces, next_line_of, whole, bad, trailing, onto, ended, go_on, lines_from, run_on, CannotStand, BytesFollow, IsFirstBad, IsWhole, IsTrailing, Course.Course}
use Rattle.plain_texts.proofs.Pieces.{pieces_some, pieces_none, pieces_cons, pieces_more}

whole_is : {L : Type 0} (ls ks : List L) → ◌≡◌ {A = Course L} (whole ls) (whole ks) → ls ≡ ks
whole_is ls ks e = cc

bad_is : {L : Type 0} (m n : ℕ) → ◌≡◌ {A = Course L} (bad m) (bad n) → m ≡ n
bad_is m n e = cc

trailing_is : {L : Type 0} (m n : ℕ) → ◌≡◌ {A = Course L} (trailing m) (trailing n) → m ≡ n
trailing_is m n e = cc

bad≢whole : {L : Type 0} (n : ℕ) (ls : List L) → ◌≡◌ {A = Course L} (bad n) (whole ls) → ⊥
bad≢whole n ls e = cc

trailing≢whole : {L : Type 0} (n : ℕ) (ls : List L) → ◌≡◌ {A = Course L} (trailing n) (whole ls) → ⊥
trailing≢whole n ls e = cc

trailing≢bad : {L : Type 0} (m n : ℕ) → ◌≡◌ {A = Course L} (trailing m) (bad n) → ⊥
trailing≢bad m n e = cc

-- what stands behind the last line
follow : (rest : List (List ℕ)) → 0 < length rest → (rest ≡ [] ∷ [] → ⊥) → BytesFollow rest
follow [] some h = absurd (omega (arith, some))
follow ([] ∷ []) some h = h refl
follow ((b ∷ bs) ∷ []) some h = tt
follow (piece ∷ next ∷ more) some h = tt

ended_cases : {L : Type 0} (at : ℕ) (l : L) (rest : List (List ℕ)) → ((ended at l rest ≡ whole (l ∷ [])) × (rest ≡ [] ∷ [])) ⊎ ((ended at l rest ≡ trailing (at + 1)) × (rest ≡ [] ∷ [] → ⊥))
ended_cases at l [] = inr (refl, λ e. absurd (cc))
ended_cases at l ([] ∷ []) = inl (refl, refl)
ended_cases at l ((b ∷ bs) ∷ []) = inr (refl, λ e. absurd (cc))
ended_cases at l (piece ∷ next ∷ more) = inr (refl, λ e. absurd (cc))

pub has_pieces : (text : List ℕ) → 0 < length (pieces text)
has_pieces text = let h = pieces_cons text in rw h.2 (omega arith)

pieces_nothing : (rest : List ℕ) → length rest ≡ 0 → pieces rest ≡ [] ∷ []
unfolding pieces
pieces_nothing [] e = refl
pieces_nothing (b ∷ bs) e = absurd (omega (arith, e))

pieces_follow : {L : Type 0} (at : ℕ) (l : L) (rest : List ℕ) → 0 < length rest → ended at l (pieces rest) ≡ trailing (at + 1)
pieces_follow at l [] some = absurd (omega (arith, some))
pieces_follow at l (b ∷ bs) some = by_cases (ended_cases at l (pieces (b ∷ bs)))
  where
    by_cases : ((ended at l (pieces (b ∷ bs)) ≡ whole (l ∷ [])) × (pieces (b ∷ bs) ≡ [] ∷ [])) ⊎ ((ended at l (pieces (b ∷ bs)) ≡ trailing (at + 1)) × (pieces (b ∷ bs) ≡ [] ∷ [] → ⊥)) → ended at l (pieces (b ∷ bs)) ≡ trailing (at + 1)
    by_cases (inl h) = absurd (pieces_more b bs h.1)
    by_cases (inr h) = h.0

module _ {L P : Type 0} (line_at : P → List ℕ → Option (L × P)) (is_last : P → Bool) where
  -- One line more, for a decoder that takes lines off a text.
  pub course_no_line : (place : P) (at : ℕ) (text : List ℕ) → next_line_of text ≡ None → lines_from line_at is_last place at (pieces text) ≡ bad at
  course_no_line place at text e = ap (lines_from line_at is_last place at) (pieces_none text e)

  one_line : (place : P) (at : ℕ) (text line rest : List ℕ) → next_line_of text ≡ Some (line, rest) → lines_from line_at is_last place at (pieces text) ≡ go_on is_last at (pieces rest) (λ p. lines_from line_at is_last p (at + 1) (pieces rest)) (line_at place line)
  one_line place at text line rest e =
      let others = pieces_cons rest in
      ap (lines_from line_at is_last place at) (pieces_some text line rest e)
      ∙ ap (λ x. lines_from line_at is_last place at (line ∷ x)) others.2
      ∙ ap (λ x. go_on is_last at x (λ p. lines_from line_at is_last p (at + 1) x) (line_at place line)) (sym others.2)

  read_line : (place : P) (at : ℕ) (text line rest : List ℕ) (l : L) (next : P) → next_line_of text ≡ Some (line, rest) → line_at place line ≡ Some (l, next) → lines_from line_at is_last place at (pieces text) ≡ cond (is_last next) (ended at l (pieces rest)) (onto l (lines_from line_at is_last next (at + 1) (pieces rest)))
  read_line place at text line rest l next e good = one_line place at text line rest e ∙ ap (go_on is_last at (pieces rest) (λ p. lines_from line_at is_last p (at + 1) (pieces rest))) good

  pub course_bad_line : (place : P) (at : ℕ) (text line rest : List ℕ) → next_line_of text ≡ Some (line, rest) → line_at place line ≡ None → lines_from line_at is_last place at (pieces text) ≡ bad at
  course_bad_line place at text line rest e bad_line = one_line place at text line rest e ∙ ap (go_on is_last at (pieces rest) (λ p. lines_from line_at is_last p (at + 1) (pieces rest))) bad_line

  pub course_good_line : (place : P) (at : ℕ) (text line rest : List ℕ) (l : L) (next : P) → next_line_of text ≡ Some (line, rest) → line_at place line ≡ Some (l, next) → is_last next ≡ false → lines_from line_at is_last place at (pieces text) ≡ onto l (lines_from line_at is_last next (at + 1) (pieces rest))
  course_good_line place at text line rest l next e good not_last = read_line place at text line rest l next e good ∙ ap (λ t. cond t (ended at l (pieces rest)) (onto l (lines_from line_at is_last next (at + 1) (pieces rest)))) not_last

  pub course_last_line : (place : P) (at : ℕ) (text line rest : List ℕ) (l : L) (next : P) → next_line_of text ≡ Some (line, rest) → line_at place line ≡ Some (l, next) → is_last next ≡ true → length rest ≡ 0 → lines_from line_at is_last place at (pieces text) ≡ whole (l ∷ [])
  course_last_line place at text line rest l next e good last none =
      read_line place at text line rest l next e good
      ∙ ap (λ t. cond t (ended at l (pieces rest)) (onto l (lines_from line_at is_last next (at + 1) (pieces rest)))) last
      ∙ ap (ended at l) (pieces_nothing rest none)

  pub course_more_lines : (place : P) (at : ℕ) (text line rest : List ℕ) (l : L) (next : P) → next_line_of text ≡ Some (line, rest) → line_at place line ≡ Some (l, next) → is_last next ≡ true → 0 < length rest → lines_from line_at is_last place at (pieces text) ≡ trailing (at + 1)
  course_more_lines place at text line rest l next e good last some =
      read_line place at text line rest l next e good
      ∙ ap (λ t. cond t (ended at l (pieces rest)) (onto l (lines_from line_at is_last next (at + 1) (pieces rest)))) last
      ∙ pieces_follow at l rest some

-- What reading a line means, for the laws of whole courses: what is read is spelled so and may stand there,
-- what is spelled so and may stand there is read, and no line may stand behind a last place.
pub record ReadsLines {L P : Type 0} (spell : L → List ℕ) (Fits : L → Type 0) (after : P → L → Option P) (is_last : P → Bool) (line_at : P → List ℕ → Option (L × P)) : Type 0 where
  pub takes : (p : P) (piece : List ℕ) (l : L) (q : P) → line_at p piece ≡ Some (l, q) → (piece ≡ spell l) × Fits l × (after p l ≡ Some q)
  pub again : (p : P) (l : L) (q : P) → Fits l → after p l ≡ Some q → line_at p (spell l) ≡ Some (l, q)
  pub stops : (p : P) (l : L) → is_last p ≡ true → after p l ≡ None

module _ {L P : Type 0} (spell : L → List ℕ) (Fits : L → Type 0) (after : P → L → Option P) (is_last : P → Bool) (line_at : P → List ℕ → Option (L × P)) (reads : ReadsLines spell Fits after is_last line_at) where
  run_none : (ls : List L) → run_on after None ls ≡ None
  run_none [] = refl
  run_none (l ∷ ls) = run_none ls

  -- one line before a course
  whole_line : (p : P) (piece : List ℕ) (rest : List (List ℕ)) (at : ℕ) (ls : List L) (x : L × P) → line_at p piece ≡ Some x → (t : Bool) → is_last x.1 ≡ t → (c : Course L) → cond t (ended at x.0 rest) (onto x.0 c) ≡ whole ls → ((ks : List L) → c ≡ whole ks → IsWhole spell Fits after is_last x.1 rest ks) → IsWhole spell Fits after is_last p (piece ∷ rest) ls
  whole_line p piece rest at ls x read true last c e others = by_end (ended_cases at x.0 rest)
    where
      by_end : ((ended at x.0 rest ≡ whole (x.0 ∷ [])) × (rest ≡ [] ∷ [])) ⊎ ((ended at x.0 rest ≡ trailing (at + 1)) × (rest ≡ [] ∷ [] → ⊥)) → IsWhole spell Fits after is_last p (piece ∷ rest) ls
      by_end (inl h) =
          let taken = reads.takes p piece x.0 x.1 read in
          subst (λ ks. IsWhole spell Fits after is_last p (piece ∷ rest) ks) (whole_is (x.0 ∷ []) ls (sym h.0 ∙ e))
          (record { place = x.1; runs = taken.2; last = last; fits = (taken.1, tt); are = ap (λ w. w ∷ rest) taken.0 ∙ ap (λ r. spell x.0 ∷ r) h.1 })
      by_end (inr h) = absurd (trailing≢whole (at + 1) ls (sym h.0 ∙ e))
  whole_line p piece rest at ls x read false last (whole ks) e others =
      let taken = reads.takes p piece x.0 x.1 read in
      let h = others ks refl in
      subst (λ ks. IsWhole spell Fits after is_last p (piece ∷ rest) ks) (whole_is (x.0 ∷ ks) ls e)
      (record { place = h.place; runs = ap (λ o. run_on after o ks) taken.2 ∙ h.runs; last = h.last; fits = (taken.1, h.fits); are = ap (λ w. w ∷ rest) taken.0 ∙ ap (λ r. spell x.0 ∷ r) h.are })
  whole_line p piece rest at ls x read false last (bad n) e others = absurd (bad≢whole n ls e)
  whole_line p piece rest at ls x read false last (trailing n) e others = absurd (trailing≢whole n ls e)

  -- What is read whole is spelled so, and each line may stand where it does.
  pub course_takes : (ps : List (List ℕ)) (p : P) (at : ℕ) (ls : List L) → lines_from line_at is_last p at ps ≡ whole ls → IsWhole spell Fits after is_last p ps ls
  course_takes [] p at ls e = absurd (bad≢whole at ls e)
  course_takes (piece ∷ []) p at ls e = absurd (bad≢whole at ls e)
  course_takes (piece ∷ next ∷ more) p at ls e = at_line (line_at p piece) refl e (λ q ks f. course_takes (next ∷ more) q (at + 1) ks f)
    where
      at_line : (o : Option (L × P)) → line_at p piece ≡ o → go_on is_last at (next ∷ more) (λ q. lines_from line_at is_last q (at + 1) (next ∷ more)) o ≡ whole ls → ((q : P) (ks : List L) → lines_from line_at is_last q (at + 1) (next ∷ more) ≡ whole ks → IsWhole spell Fits after is_last q (next ∷ more) ks) → IsWhole spell Fits after is_last p (piece ∷ next ∷ more) ls
      at_line None read e others = absurd (bad≢whole at ls e)
      at_line (Some x) read e others = whole_line p piece (next ∷ more) at ls x read (is_last x.1) refl (lines_from line_at is_last x.1 (at + 1) (next ∷ more)) e (others x.1)

  bad_here : (ps : List (List ℕ)) (p : P) (at k : ℕ) → is_last p ≡ false → CannotStand spell Fits after p ps → ◌≡◌ {A = Course L} (bad at) (bad k) → IsFirstBad spell Fits after is_last p at ps k
  bad_here ps p at k going cannot e =
      let here = bad_is at k e in
      record { lines = []; place = p; rest = ps; runs = refl; not_last = going; fits = tt; are = refl; number = omega (arith, here); no_line = cannot }

  bad_line : (p : P) (piece : List ℕ) (rest : List (List ℕ)) (at k : ℕ) (x : L × P) → line_at p piece ≡ Some x → (t : Bool) → is_last x.1 ≡ t → (c : Course L) → cond t (ended at x.0 rest) (onto x.0 c) ≡ bad k → (is_last x.1 ≡ false → c ≡ bad k → IsFirstBad spell Fits after is_last x.1 (at + 1) rest k) → IsFirstBad spell Fits after is_last p at (piece ∷ rest) k
  bad_line p piece rest at k x read true last c e others = by_end (ended_cases at x.0 rest)
    where
      by_end : ((ended at x.0 rest ≡ whole (x.0 ∷ [])) × (rest ≡ [] ∷ [])) ⊎ ((ended at x.0 rest ≡ trailing (at + 1)) × (rest ≡ [] ∷ [] → ⊥)) → IsFirstBad spell Fits after is_last p at (piece ∷ rest) k
      by_end (inl h) = absurd (bad≢whole k (x.0 ∷ []) (sym e ∙ h.0))
      by_end (inr h) = absurd (trailing≢bad (at + 1) k (sym h.0 ∙ e))
  bad_line p piece rest at k x read false going (whole ks) e others = absurd (bad≢whole k (x.0 ∷ ks) (sym e))
  bad_line p piece rest at k x read false going (bad n) e others =
      let taken = reads.takes p piece x.0 x.1 read in
      let h = others going e in
      record { lines = x.0 ∷ h.lines; place = h.place; rest = h.rest; runs = ap (λ o. run_on after o h.lines) taken.2 ∙ h.runs; not_last = h.not_last; fits = (taken.1, h.fits); are = ap (λ w. w ∷ rest) taken.0 ∙ ap (λ r. spell x.0 ∷ r) h.are; number = omega (arith, h.number); no_line = h.no_line }
  bad_line p piece rest at k x read false going (trailing n) e others = absurd (trailing≢bad n k e)

  -- The number of a fault is that of the first line that may not stand.
  pub course_bad : (ps : List (List ℕ)) (p : P) (at k : ℕ) → is_last p ≡ false → 0 < length ps → lines_from line_at is_last p at ps ≡ bad k → IsFirstBad spell Fits after is_last p at ps k
  course_bad [] p at k going some e = absurd (omega (arith, some))
  course_bad (piece ∷ []) p at k going some e = bad_here (piece ∷ []) p at k going tt e
  course_bad (piece ∷ next ∷ more) p at k going some e = at_line (line_at p piece) refl e (λ q on f. course_bad (next ∷ more) q (at + 1) k on (omega arith) f)
    where
      cannot : line_at p piece ≡ None → (l : L) → Fits l → piece ≡ spell l → (o : Option P) → after p l ≡ o → o ≡ None
      cannot unread l fits spelled None is = refl
      cannot unread l fits spelled (Some q) is = absurd (none-some (l, q) (sym unread ∙ ap (line_at p) spelled ∙ reads.again p l q fits is))

      at_line : (o : Option (L × P)) → line_at p piece ≡ o → go_on is_last at (next ∷ more) (λ q. lines_from line_at is_last q (at + 1) (next ∷ more)) o ≡ bad k → ((q : P) → is_last q ≡ false → lines_from line_at is_last q (at + 1) (next ∷ more) ≡ bad k → IsFirstBad spell Fits after is_last q (at + 1) (next ∷ more) k) → IsFirstBad spell Fits after is_last p at (piece ∷ next ∷ more) k
      at_line None read e others = bad_here (piece ∷ next ∷ more) p at k going (λ l fits spelled. cannot read l fits spelled (after p l) refl) e
      at_line (Some x) read e others = bad_line p piece (next ∷ more) at k x read (is_last x.1) refl (lines_from line_at is_last x.1 (at + 1) (next ∷ more)) e (others x.1)

  trailing_line : (p : P) (piece : List ℕ) (rest : List (List ℕ)) (at k : ℕ) (x : L × P) → 0 < length rest → line_at p piece ≡ Some x → (t : Bool) → is_last x.1 ≡ t → (c : Course L) → cond t (ended at x.0 rest) (onto x.0 c) ≡ trailing k → (c ≡ trailing k → IsTrailing spell Fits after is_last x.1 (at + 1) rest k) → IsTrailing spell Fits after is_last p at (piece ∷ rest) k
  trailing_line p piece rest at k x some read true last c e others = by_end (ended_cases at x.0 rest)
    where
      by_end : ((ended at x.0 rest ≡ whole (x.0 ∷ [])) × (rest ≡ [] ∷ [])) ⊎ ((ended at x.0 rest ≡ trailing (at + 1)) × (rest ≡ [] ∷ [] → ⊥)) → IsTrailing spell Fits after is_last p at (piece ∷ rest) k
      by_end (inl h) = absurd (trailing≢whole k (x.0 ∷ []) (sym e ∙ h.0))
      by_end (inr h) =
          let taken = reads.takes p piece x.0 x.1 read in
          let here = trailing_is (at + 1) k (sym h.0 ∙ e) in
          record { lines = x.0 ∷ []; place = x.1; rest = rest; runs = taken.2; last = last; fits = (taken.1, tt); are = ap (λ w. w ∷ rest) taken.0; number = sym here; more = follow rest some h.1 }
  trailing_line p piece rest at k x some read false last (whole ks) e others = absurd (trailing≢whole k (x.0 ∷ ks) (sym e))
  trailing_line p piece rest at k x some read false last (bad n) e others = absurd (trailing≢bad k n (sym e))
  trailing_line p piece rest at k x some read false last (trailing n) e others =
      let taken = reads.takes p piece x.0 x.1 read in
      let h = others e in
      record { lines = x.0 ∷ h.lines; place = h.place; rest = h.rest; runs = ap (λ o. run_on after o h.lines) taken.2 ∙ h.runs; last = h.last; fits = (taken.1, h.fits); are = ap (λ w. w ∷ rest) taken.0 ∙ ap (λ r. spell x.0 ∷ r) h.are; number = omega (arith, h.number); more = h.more }

  -- Bytes follow a last line.
  pub course_trailing : (ps : List (List ℕ)) (p : P) (at k : ℕ) → lines_from line_at is_last p at ps ≡ trailing k → IsTrailing spell Fits after is_last p at ps k
  course_trailing [] p at k e = absurd (trailing≢bad k at (sym e))
  course_trailing (piece ∷ []) p at k e = absurd (trailing≢bad k at (sym e))
  course_trailing (piece ∷ next ∷ more) p at k e = at_line (line_at p piece) refl e (λ q f. course_trailing (next ∷ more) q (at + 1) k f)
    where
      at_line : (o : Option (L × P)) → line_at p piece ≡ o → go_on is_last at (next ∷ more) (λ q. lines_from line_at is_last q (at + 1) (next ∷ more)) o ≡ trailing k → ((q : P) → lines_from line_at is_last q (at + 1) (next ∷ more) ≡ trailing k → IsTrailing spell Fits after is_last q (at + 1) (next ∷ more) k) → IsTrailing spell Fits after is_last p at (piece ∷ next ∷ more) k
      at_line None read e others = absurd (trailing≢bad k at (sym e))
      at_line (Some x) read e others = trailing_line p piece (next ∷ more) at k x (omega arith) read (is_last x.1) refl (lines_from line_at is_last x.1 (at + 1) (next ∷ more)) e (others x.1)

  -- Lines that may stand are read, if nothing follows the last.
  pub course_again : (ls : List L) (p end : P) (at : ℕ) → is_last p ≡ false → run_on after (Some p) ls ≡ Some end → is_last end ≡ true → AllByRecursion Fits ls → lines_from line_at is_last p at (map spell ls ++ [] ∷ []) ≡ whole ls
  course_again [] p end at going runs last fits = absurd (false≢true (sym going ∙ ap is_last (same_Some p end runs) ∙ last))
  course_again (l ∷ []) p end at going runs last fits =
      ap (go_on is_last at ([] ∷ []) (λ q. lines_from line_at is_last q (at + 1) ([] ∷ []))) (reads.again p l end fits.0 runs)
      ∙ ap (λ t. cond t (whole (l ∷ [])) (bad (at + 1))) last
  course_again (l ∷ next ∷ ls) p end at going runs last fits = at_next (after p l) refl runs (λ q going runs. course_again (next ∷ ls) q end (at + 1) going runs last fits.1)
    where
      at_next : (o : Option P) → after p l ≡ o → run_on after o (next ∷ ls) ≡ Some end → ((q : P) → is_last q ≡ false → run_on after (Some q) (next ∷ ls) ≡ Some end → lines_from line_at is_last q (at + 1) (map spell (next ∷ ls) ++ [] ∷ []) ≡ whole (next ∷ ls)) → lines_from line_at is_last p at (map spell (l ∷ next ∷ ls) ++ [] ∷ []) ≡ whole (l ∷ next ∷ ls)
      at_next None is runs others = absurd (none-some end (sym (run_none (next ∷ ls)) ∙ runs))
      at_next (Some q) is runs others = by_place (is_last q) refl
        where
          by_place : (t : Bool) → is_last q ≡ t → lines_from line_at is_last p at (map spell (l ∷ next ∷ ls) ++ [] ∷ []) ≡ whole (l ∷ next ∷ ls)
          by_place true stop = absurd (none-some end (sym (ap (λ o. run_on after o ls) (reads.stops q next stop) ∙ run_none ls) ∙ runs))
          by_place false go =
              ap (go_on is_last at (map spell (next ∷ ls) ++ [] ∷ []) (λ r. lines_from line_at is_last r (at + 1) (map spell (next ∷ ls) ++ [] ∷ []))) (reads.again p l q fits.0 is)
              ∙ ap (λ t. cond t (ended at l (map spell (next ∷ ls) ++ [] ∷ [])) (onto l (lines_from line_at is_last q (at + 1) (map spell (next ∷ ls) ++ [] ∷ [])))) go
              ∙ ap (onto l) (others q go runs)

  -- ---- the number of a fault is that of one line alone

  -- one line that may stand before a course
  line_on : (p : P) (l : L) (q : P) (at : ℕ) (tail : List (List ℕ)) (c : Course L) → (tail ≡ [] → ⊥) → Fits l → after p l ≡ Some q → is_last q ≡ false → lines_from line_at is_last q (at + 1) tail ≡ c
      → lines_from line_at is_last p at (spell l ∷ tail) ≡ onto l c
  line_on p l q at [] c some fits is go e = absurd (some refl)
  line_on p l q at (x ∷ tail) c some fits is go e =
      ap (go_on is_last at (x ∷ tail) (λ r. lines_from line_at is_last r (at + 1) (x ∷ tail))) (reads.again p l q fits is)
      ∙ ap (λ t. cond t (ended at l (x ∷ tail)) (onto l (lines_from line_at is_last q (at + 1) (x ∷ tail)))) go
      ∙ ap (onto l) e

  tail_some : (ls : List L) (rest : List (List ℕ)) → (rest ≡ [] → ⊥) → map spell ls ++ rest ≡ [] → ⊥
  tail_some [] rest some e = some e
  tail_some (l ∷ ls) rest some e = cc

  -- behind a last place no line stands
  no_stop : (ls : List L) (q place : P) → is_last q ≡ true → run_on after (Some q) ls ≡ Some place → is_last place ≡ false → ⊥
  no_stop [] q place stop runs going = false≢true (sym going ∙ ap is_last (sym (same_Some q place runs)) ∙ stop)
  no_stop (l ∷ ls) q place stop runs going = none-some place (sym (ap (λ o. run_on after o ls) (reads.stops q l stop) ∙ run_none ls) ∙ runs)

  cannot_some : (p : P) (rest : List (List ℕ)) → CannotStand spell Fits after p rest → rest ≡ [] → ⊥
  cannot_some p [] none e = none
  cannot_some p (x ∷ rest) cannot e = cc

  bad_first : (p : P) (at : ℕ) (rest : List (List ℕ)) → CannotStand spell Fits after p rest → lines_from line_at is_last p at rest ≡ bad at
  bad_first p at [] none = absurd none
  bad_first p at (piece ∷ []) cannot = refl
  bad_first p at (piece ∷ next ∷ more) cannot = by_line (line_at p piece) refl
    where
      by_line : (o : Option (L × P)) → line_at p piece ≡ o → go_on is_last at (next ∷ more) (λ q. lines_from line_at is_last q (at + 1) (next ∷ more)) o ≡ bad at
      by_line None read = refl
      by_line (Some x) read =
          let taken = reads.takes p piece x.0 x.1 read in
          absurd (none-some x.1 (sym (cannot x.0 taken.1 taken.0) ∙ taken.2))

  bad_behind : (ls : List L) (p place : P) (at : ℕ) (rest : List (List ℕ)) → run_on after (Some p) ls ≡ Some place → is_last place ≡ false → AllByRecursion Fits ls → CannotStand spell Fits after place rest
      → lines_from line_at is_last p at (map spell ls ++ rest) ≡ bad (at + length ls)
  bad_behind [] p place at rest runs going fits cannot =
      bad_first p at rest (subst (λ q. CannotStand spell Fits after q rest) (sym (same_Some p place runs)) cannot) ∙ ap bad (omega arith)
  bad_behind (l ∷ ls) p place at rest runs going fits cannot = at_next (after p l) refl runs (λ q runs. bad_behind ls q place (at + 1) rest runs going fits.1 cannot)
    where
      at_next : (o : Option P) → after p l ≡ o → run_on after o ls ≡ Some place
          → ((q : P) → run_on after (Some q) ls ≡ Some place → lines_from line_at is_last q (at + 1) (map spell ls ++ rest) ≡ bad (at + 1 + length ls))
          → lines_from line_at is_last p at (spell l ∷ (map spell ls ++ rest)) ≡ bad (at + length (l ∷ ls))
      at_next None is runs others = absurd (none-some place (sym (run_none ls) ∙ runs))
      at_next (Some q) is runs others = by_place (is_last q) refl
        where
          by_place : (t : Bool) → is_last q ≡ t → lines_from line_at is_last p at (spell l ∷ (map spell ls ++ rest)) ≡ bad (at + length (l ∷ ls))
          by_place true stop = absurd (no_stop ls q place stop runs going)
          by_place false go =
              line_on p l q at (map spell ls ++ rest) (bad (at + 1 + length ls)) (tail_some ls rest (cannot_some place rest cannot)) fits.0 is go (others q runs)
              ∙ ap bad (omega arith)

  follow_some : (rest : List (List ℕ)) → BytesFollow rest → rest ≡ [] → ⊥
  follow_some [] none e = none
  follow_some (x ∷ rest) follows e = cc

  trailing_first : (p : P) (l : L) (q : P) (at : ℕ) (rest : List (List ℕ)) → Fits l → after p l ≡ Some q → is_last q ≡ true → BytesFollow rest
      → lines_from line_at is_last p at (spell l ∷ rest) ≡ trailing (at + 1)
  trailing_first p l q at [] fits is stop none = absurd none
  trailing_first p l q at (x ∷ rest) fits is stop follows =
      ap (go_on is_last at (x ∷ rest) (λ r. lines_from line_at is_last r (at + 1) (x ∷ rest))) (reads.again p l q fits is)
      ∙ ap (λ t. cond t (ended at l (x ∷ rest)) (onto l (lines_from line_at is_last q (at + 1) (x ∷ rest)))) stop
      ∙ by_end (ended_cases at l (x ∷ rest))
    where
      by_end : ((ended at l (x ∷ rest) ≡ whole (l ∷ [])) × (x ∷ rest ≡ [] ∷ [])) ⊎ ((ended at l (x ∷ rest) ≡ trailing (at + 1)) × (x ∷ rest ≡ [] ∷ [] → ⊥)) → ended at l (x ∷ rest) ≡ trailing (at + 1)
      by_end (inl h) = absurd (subst BytesFollow h.1 follows)
      by_end (inr h) = h.0

  trailing_behind : (ls : List L) (p place : P) (at : ℕ) (rest : List (List ℕ)) → is_last p ≡ false → run_on after (Some p) ls ≡ Some place → is_last place ≡ true → AllByRecursion Fits ls → BytesFollow rest
      → lines_from line_at is_last p at (map spell ls ++ rest) ≡ trailing (at + length ls)
  trailing_behind [] p place at rest going runs last fits follows = absurd (false≢true (sym going ∙ ap is_last (same_Some p place runs) ∙ last))
  trailing_behind (l ∷ ls) p place at rest going runs last fits follows = at_next (after p l) refl runs (λ q go runs. trailing_behind ls q place (at + 1) rest go runs last fits.1 follows)
    where
      at_next : (o : Option P) → after p l ≡ o → run_on after o ls ≡ Some place
          → ((q : P) → is_last q ≡ false → run_on after (Some q) ls ≡ Some place → lines_from line_at is_last q (at + 1) (map spell ls ++ rest) ≡ trailing (at + 1 + length ls))
          → lines_from line_at is_last p at (spell l ∷ (map spell ls ++ rest)) ≡ trailing (at + length (l ∷ ls))
      at_next None is runs others = absurd (none-some place (sym (run_none ls) ∙ runs))
      at_next (Some q) is runs others = by_place (is_last q) refl
        where
          at_last : (ks : List L) → is_last q ≡ true → run_on after (Some q) ks ≡ Some place → lines_from line_at is_last p at (spell l ∷ (map spell ks ++ rest)) ≡ trailing (at + length (l ∷ ks))
          at_last [] stop runs = trailing_first p l q at rest fits.0 is stop follows ∙ ap trailing (omega arith)
          at_last (k ∷ ks) stop runs = absurd (none-some place (sym (ap (λ o. run_on after o ks) (reads.stops q k stop) ∙ run_none ks) ∙ runs))

          by_place : (t : Bool) → is_last q ≡ t → lines_from line_at is_last p at (spell l ∷ (map spell ls ++ rest)) ≡ trailing (at + length (l ∷ ls))
          by_place true stop = at_last ls stop runs
          by_place false go =
              line_on p l q at (map spell ls ++ rest) (trailing (at + 1 + length ls)) (tail_some ls rest (follow_some rest follows)) fits.0 is go (others q go runs)
              ∙ ap trailing (omega arith)

  pub course_bad_is : (ps : List (List ℕ)) (p : P) (at k : ℕ) → IsFirstBad spell Fits after is_last p at ps k → lines_from line_at is_last p at ps ≡ bad k
  course_bad_is ps p at k h =
      ap (lines_from line_at is_last p at) h.are ∙ bad_behind h.lines p h.place at h.rest h.runs h.not_last h.fits h.no_line ∙ ap bad (sym h.number)

  pub course_trailing_is : (ps : List (List ℕ)) (p : P) (at k : ℕ) → is_last p ≡ false → IsTrailing spell Fits after is_last p at ps k → lines_from line_at is_last p at ps ≡ trailing k
  course_trailing_is ps p at k going h =
      ap (lines_from line_at is_last p at) h.are ∙ trailing_behind h.lines p h.place at h.rest going h.runs h.last h.fits h.more ∙ ap trailing (sym h.number)
