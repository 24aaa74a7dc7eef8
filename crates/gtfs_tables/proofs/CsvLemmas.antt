-- A row takes at least a byte, so a text has fewer rows than it has bytes, and the rows of a text are those that
-- reading one after another gives.
use Rattle.plan_base.proofs.Common.{◌≡◌, ℕ, zero, suc, ◌+◌, ◌<◌, ◌≤◌, List, [], ◌∷◌, ◌++◌, length, refl, sym, ap, ap₂, inl, subst, ◌∙◌, add-one, Bool, true, false, cond, Option, None, Some, Result, Ok, Err, arith, ◌==◌, none-some, same_Some}
use Rattle.csv.specs.Machine.{Read, next_record, step, in_field, start_field, start_record, ends_with, ends_at_end, is_end, fields_after, field_after}
use Rattle.csv.specs.Reading.{ExplainsRead, FlexibleStep, Reached, RowStep, default_config, records_from, records_next}
use Rattle.csv.specs.Records as Csv
use Rattle.csv.specs.Records.{fields_of}
use Rattle.csv.proofs.ReadFacts.{rows-end, rows-more}
use Rattle.csv.specs.declared.error.Error.{Error}
use Rattle.csv.specs.declared.error.ErrorKind.{ErrorKind}
use Rattle.csv.specs.declared.error.ErrorKind.TheVariants as kind
use Rattle.csv.specs.declared.iter.ByteRecordsIntoIter.{ByteRecordsIntoIter}
use Rattle.csv.specs.declared.reader.Reader.{Reader}
use Rattle.csv.specs.declared.parser.State.{State}
use Rattle.csv.specs.declared.parser.State.TheVariants as st
use Rattle.csv.specs.declared.parser.Action.{Action}
use Rattle.csv.specs.declared.parser.Action.TheVariants as act
use Rattle.csv.specs.declared.parser.Terminator.TheVariants as term
use Rattle.gtfs_tables.specs.{Row, inside.HasStepped, inside.IsWant, inside.Source, inside.TakesRows, inside.rows_from}

-- where a byte ends a row, the next state stands between two rows
abbrev StandsBetween : State × Action → Type 0
StandsBetween p = is_end p.1 ≡ true → ends_at_end p.0 ≡ false

either : (t : Bool) (p q : State × Action) → StandsBetween p → StandsBetween q → StandsBetween (cond t p q)
either true p q h k = h
either false p q h k = k

after_row : (t : Bool) → StandsBetween (cond t st.AfterCr st.StartRecord, act.EndRecord)
after_row true h = refl
after_row false h = refl

within_row : (s : State) (a : Action) → is_end a ≡ false → StandsBetween (s, a)
within_row s a within h = absurd cc

in_field_between : (c : ℕ) → StandsBetween (in_field default_config c)
in_field_between c = either (c == 44) _ _ (within_row st.StartField act.EndField refl) (either (ends_with term.CRLF c) _ _ (after_row (c == 13)) (within_row st.InField act.Copy refl))

start_field_between : (c : ℕ) → StandsBetween (start_field default_config c)
start_field_between c = either (c == 34) _ _ (within_row st.InQuoted act.Skip refl) (in_field_between c)

start_record_between : (c : ℕ) → StandsBetween (start_record default_config c)
start_record_between c = either (ends_with term.CRLF c) _ _ (within_row st.StartRecord act.Skip refl) (start_field_between c)

step_between : (s : State) (c : ℕ) → StandsBetween (step default_config s c)
step_between st.StartRecord c = start_record_between c
step_between st.StartField c = start_field_between c
step_between st.InField c = in_field_between c
step_between st.InQuoted c = either (c == 34) _ _ (within_row st.AfterQuote act.Skip refl) (within_row st.InQuoted act.Copy refl)
step_between st.InEscape c = within_row st.InQuoted act.Copy refl
step_between st.AfterQuote c = either (c == 34) _ _ (within_row st.InQuoted act.Copy refl) (in_field_between c)
step_between st.InComment c = either (c == 10) _ _ (within_row st.StartRecord act.Skip refl) (within_row st.InComment act.Skip refl)
step_between st.AfterCr c = either (c == 10) _ _ (within_row st.StartRecord act.Skip refl) (start_record_between c)

-- what a row leaves: a state between two rows, and fewer bytes where the row began in such a state
record Leaves (s : State) (xs : List ℕ) (p : Read) : Type 0 where
  between : ends_at_end p.1 ≡ false
  no_more : length p.2 ≤ length xs
  fewer : ends_at_end s ≡ false → length p.2 < length xs

leaves : (s : State) (fields : List (List ℕ)) (field xs : List ℕ) (p : Read) → next_record default_config s fields field xs ≡ Some p → Leaves s xs p
unfolding next_record
leaves s fields field [] p e = by_end (ends_at_end s) refl e
  where
    by_end : (t : Bool) → ends_at_end s ≡ t → cond t (Some (fields ++ (field ∷ []), st.StartRecord, [])) None ≡ Some p → Leaves s [] p
    by_end true is e = subst (Leaves s []) (same_Some _ p e) (record { between = refl; no_more = omega arith; fewer = λ no. absurd cc })
    by_end false is e = absurd (none-some p e)
leaves s fields field (c ∷ xs) p e =
    by_end (is_end (step default_config s c).1) refl (leaves (step default_config s c).0 (fields_after (step default_config s c).1 fields field) (field_after (step default_config s c).1 c field) xs p) e
  where
    by_end : (t : Bool) → is_end (step default_config s c).1 ≡ t → {more : Option Read} → (more ≡ Some p → Leaves (step default_config s c).0 xs p)
        → cond t (Some (fields_after (step default_config s c).1 fields field, (step default_config s c).0, xs)) more ≡ Some p → Leaves s (c ∷ xs) p
    by_end true is rest e = subst (Leaves s (c ∷ xs)) (same_Some _ p e) (record { between = step_between s c is; no_more = omega arith; fewer = λ _. omega arith })
    by_end false is rest e = let most = (rest e).no_more in record { between = (rest e).between; no_more = omega arith; fewer = λ _. omega arith }

-- enough turns are enough
enough : (n m : ℕ) (s : State) (xs : List ℕ) → ends_at_end s ≡ false → length xs < n → length xs < m → records_from default_config n s xs ≡ records_from default_config m s xs
unfolding records_from
enough zero m s xs between h k = absurd (omega (arith, h))
enough (suc n) zero s xs between h k = absurd (omega (arith, k))
enough (suc n) (suc m) s xs between h k = by_next (next_record default_config s [] [] xs) refl (λ p. enough n m p.1 p.2)
  where
    by_next : (o : Option Read) → next_record default_config s [] [] xs ≡ o
        → ((p : Read) → ends_at_end p.1 ≡ false → length p.2 < n → length p.2 < m → records_from default_config n p.1 p.2 ≡ records_from default_config m p.1 p.2)
        → records_next (records_from default_config n) o ≡ records_next (records_from default_config m) o
    by_next None is rest = refl
    by_next (Some p) is rest =
        let left = leaves s [] [] xs p is in
        let less = left.fewer between in
        ap (λ rows. p.0 ∷ rows) (rest p left.between (omega (arith, h, less)) (omega (arith, k, less)))

-- the rows of a text where it has no row, and where it has one
pub no_row : (s : State) (xs : List ℕ) → next_record default_config s [] [] xs ≡ None → rows_from s (Some xs) ≡ []
unfolding records_from
no_row s xs is = rw (add-one (length xs)) (ap (records_next (records_from default_config (length xs))) is)

pub next_row : (s : State) (xs : List ℕ) (p : Read) → ends_at_end s ≡ false → next_record default_config s [] [] xs ≡ Some p
    → (rows_from s (Some xs) ≡ p.0 ∷ rows_from p.1 (Some p.2)) × (ends_at_end p.1 ≡ false)
unfolding records_from
next_row s xs p between is =
    let left = leaves s [] [] xs p is in
    let less = left.fewer between in (
      rw (add-one (length xs)) (ap (records_next (records_from default_config (length xs))) is
          ∙ ap (λ rows. p.0 ∷ rows) (enough (length xs) (length p.2 + 1) p.1 p.2 left.between less (omega arith))),
      left.between,
    )

is_want : (a b : Reader Source) (kind : ErrorKind) → a.flexible ≡ true → ExplainsRead (λ text. Some text.now) a b false kind → IsWant kind
is_want a b (kind.Io e) flexible h = tt
is_want a b kind.OutOfMemory flexible h = tt
is_want a b (kind.UnequalLengths pos expected len) flexible h = let no = h.0 in absurd cc
is_want a b (kind.Utf8 pos err) flexible h = let no = h.0 in absurd cc
is_want a b (kind.Serialize text) flexible h = h
is_want a b (kind.Deserialize pos err) flexible h = h

-- what a step of an iterator of rows does
pub has_stepped : (a b : ByteRecordsIntoIter Source) → TakesRows a → (r : Option (Result Csv.Row Error))
    → RowStep (λ text. Some text.now) a.rdr b.rdr b.left r → FlexibleStep a.rdr b.rdr r → HasStepped a b r
unfolding Reached
has_stepped a b takes None step kept =
    ap (rows_from a.rdr.state) takes.source
    ∙ no_row a.rdr.state takes.bytes (rows-end (λ text. Some text.now) a.rdr b.rdr [] default_config takes.bytes takes.config takes.source step)
has_stepped a b takes (Some (Ok row)) step kept =
    let (record_, first, more_left) = step in
    let (bytes, at_bytes, reached) = rows-more (λ (text : Source). Some text.now) a.rdr b.rdr (fields_of row) default_config a.rdr.state takes.bytes takes.bytes [] takes.config takes.source (refl, refl) record_ in
    let (p, next, fields, after) = reached in
    let (rows, between) = next_row a.rdr.state takes.bytes p takes.between next in (
      record {
        config = record_.2 ∙ takes.config;
        untrimmed = record_.3 ∙ takes.untrimmed;
        flexible = kept ∙ takes.flexible;
        left = more_left;
        ready = inl first;
        between = ap ends_at_end (sym after.0) ∙ between;
        bytes = bytes;
        source = at_bytes;
      },
      ap (rows_from a.rdr.state) takes.source ∙ rows ∙ ap₂ (λ (row : List (List ℕ)) (rows : List Row). row ∷ rows) (sym fields) (ap₂ rows_from after.0 (ap Some after.1 ∙ sym at_bytes)),
    )
has_stepped a b takes (Some (Err error)) step kept = is_want a.rdr b.rdr error.kind takes.flexible step
