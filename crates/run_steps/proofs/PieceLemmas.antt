-- A file that is answered piece by piece.
use Rattle.plan_base.proofs.Common.{◌≡◌, ℕ, ◌+◌, ◌<◌, ◌≤◌, ◌∙◌, inl, inr, List, [], ◌∷◌, ◌++◌, append_assoc, append-nil, take, drop, length, length-append, length-take-le, Bool, true, false, cond, nat_eq, Option, Some, None, refl, ap, sym, subst, arith, ⊤, All, IfSome, IsSomeAnd, unwrap_or, drop-append_seam, nil_from_length, take-append-drop, All-append, All-cons, All-nil, nat_tests}
use Rattle.plain_texts.specs.{IsLine, lines_of, lines_text}
use Rattle.plan_base.specs.{read_fault_of, HasCause, ShelfMeaning, IsLater, Told, Gave, AreBytesAt, SinkMeaning, Appended, Stays, ShelfError}
use Rattle.plan_base.specs.declared.reading.ReadFault.TheVariants as cause
use Rattle.plan_base.specs.declared.reading.ShelfError.TheVariants as shelf
use Rattle.run_steps.specs.{FileRole, Outcome, Done, Usage, Missing, ReadFault, TooLong, WriteFault, BadRegion, BadFeed, Invalid, BadCertificate, BadHierarchy, Unsound, OutOfMemory, scene, Saying, queries_among, query_lines, BlockRule, AreBlocks, WroteBlocks, AreCounted, HasAnswered, HasReadLines, HasReadTo, IsLost, IsReadTo, IsShort, StopsInTurn, outcome_of, Scene.Scene, inside.IsBlocksOutcome, inside.AreAnswered, inside.AreEnded, inside.IsBegun, inside.IsPieceOutcome, inside.IsSumWith, inside.IsUpToDate, inside.fault_at, InTurn.InTurn}
use Rattle.plan_base.proofs.MoreWritten.{stays_so}
use Rattle.run_steps.proofs.{Steps.later_twice, Steps.rose_over, Steps.told_before, JoinLemmas.counted_join, JoinLemmas.queries_join, JoinLemmas.wrote_none, JoinLemmas.wrote_on, JoinLemmas.wrote_twice, LineLemmas.lines_before, LineLemmas.lines_none, LineLemmas.lines_one, TurnLemmas.answered_more, TurnLemmas.answered_twice, TurnLemmas.piece_fails}

-- what a shelf tells, and what follows from it
told_so : (s : ShelfMeaning) (name : List ℕ) (P Q : Option (List ℕ) → Type 0) → ((held : Option (List ℕ)) → P held → Q held) → Told s name P → Told s name Q
told_so s name P Q so told = by s.files told
  where
    by : (files : Option (List ℕ → Option (List ℕ))) → IfSome files (λ f. P (f name)) → IfSome files (λ f. Q (f name))
    by None none = tt
    by (Some f) p = so (f name) p

told_both : (s : ShelfMeaning) (name : List ℕ) (P Q R : Option (List ℕ) → Type 0) → ((held : Option (List ℕ)) → P held → Q held → R held) → Told s name P → Told s name Q → Told s name R
told_both s name P Q R so p q = by s.files p q
  where
    by : (files : Option (List ℕ → Option (List ℕ))) → IfSome files (λ f. P (f name)) → IfSome files (λ f. Q (f name)) → IfSome files (λ f. R (f name))
    by None p q = tt
    by (Some f) p q = so (f name) p q

-- what is held begins so; a file that is absent is as an empty one
abbrev pub Begins : List ℕ → Option (List ℕ) → Type 0
Begins read held = (more : List ℕ) × (unwrap_or held [] ≡ read ++ more)

begins_more : (read into : List ℕ) (n : ℕ) (held : Option (List ℕ)) → Begins read held → IsSomeAnd held (λ file. AreBytesAt file (length read) n into) → Begins (read ++ take n into) held
begins_more read into n None begins gave = absurd gave
begins_more read into n (Some file) (more, e) gave =
    let rest : drop (length read) file ≡ more = ap (λ (f : List ℕ). drop (length read) f) e ∙ drop-append_seam read more in
    let front : take n into ≡ take n more = gave.same ∙ ap (λ (m : List ℕ). take n m) rest in (
      drop n more,
      e ∙ (ap (λ (m : List ℕ). read ++ m) (sym (take-append-drop n more)) ∙ (sym (append_assoc read (take n more) (drop n more))
          ∙ ap (λ (t : List ℕ). (read ++ t) ++ drop n more) (sym front))),
    )

begins_all : (read into : List ℕ) → 0 < length into → (held : Option (List ℕ)) → Begins read held → IsSomeAnd held (λ file. AreBytesAt file (length read) 0 into) → held ≡ Some read
begins_all read into some None begins gave = absurd gave
begins_all read into some (Some file) (more, e) gave =
    let all = gave.end refl some in
    let long = ap length e in
    let none : more ≡ [] = nil_from_length more (omega (arith, long, length-append read more, all)) in
    ap Some (e ∙ (ap (λ (m : List ℕ). read ++ m) none ∙ append-nil read))

-- lines that end in what was read
read_to : (read rest : List ℕ) (lines : List (List ℕ)) → All IsLine lines → IsLine rest → read ≡ lines_text lines ++ rest → (held : Option (List ℕ)) → Begins read held → IsReadTo (unwrap_or held []) lines rest
read_to read rest lines are is e held (more, begins) = record { are_lines = are; is_line = is; more = more; text_is = begins ∙ ap (λ (t : List ℕ). t ++ more) e }

-- ---- asking for more

no_lines : (lines : List (List ℕ)) → length (lines_text lines) ≡ 0 → lines ≡ []
no_lines [] none = refl
no_lines (line ∷ lines) none =
    absurd (omega (arith, none, length-append (line ++ 10 ∷ []) (lines_text lines), length-append line (10 ∷ [])))

module _ (file : FileRole) (IsBlock : BlockRule) (name : List ℕ) (place : ℕ) (first : Scene ⊤) (mid new : ShelfMeaning) (out : SinkMeaning)
    (done : IsUpToDate IsBlock name place first (scene mid out)) (later : IsLater mid new) where
  -- nothing was written where nothing was read
  unwritten : place ≡ 0 → Stays first.out out
  unwritten none =
      let long = done.place_is in
      let lines : done.lines ≡ [] = no_lines done.lines (omega (arith, none, long, length-append (lines_text done.lines) done.rest)) in
      let empty : done.wrote.out ≡ [] = subst (λ (ls : List (List ℕ)). AreBlocks IsBlock (queries_among ls) done.wrote.out) lines done.wrote.is in
      stays first.out.bytes (subst (Appended first.out out) empty done.wrote.appended)
    where
      stays : (told : Option (List ℕ)) → IfSome told (λ s. out.bytes ≡ Some (s ++ [])) → IfSome told (λ s. out.bytes ≡ Some s)
      stays None none = tt
      stays (Some s) e = e ∙ ap Some (append-nil s)

  -- a file that is missed where some of it was read is on a shelf that does not tell
  untold : 0 < place → Told mid name (λ held. held ≡ None) → first.shelf.files ≡ None
  untold some missed = by first.shelf.files (told_both first.shelf name _ _ (λ held. ⊥) so done.read (told_before first.shelf mid done.later name (λ held. held ≡ None) missed))
    where
      so : (held : Option (List ℕ)) → IsReadTo (unwrap_or held []) done.lines done.rest → held ≡ None → ⊥
      so held read none =
          let empty = ap length (sym (ap (λ (h : Option (List ℕ)). unwrap_or h []) none) ∙ read.text_is) in
          let long = done.place_is in
          omega (arith, empty, long, some, length-append (lines_text done.lines ++ done.rest) read.more)

      by : (files : Option (List ℕ → Option (List ℕ))) → IfSome files (λ f. ⊥) → files ≡ None
      by None none = refl
      by (Some f) none = absurd none

  failed : (by : IsLost first.shelf new) → StopsInTurn file name IsBlock first (scene new out) (ReadFault file)
  failed lost = (refl, lost, record { lines = done.lines; read = (done.rest, done.read); wrote = done.wrote })

  ask_fails : (b : Bool) → nat_eq place 0 ≡ b → (error : ShelfError) → HasCause mid new name error → StopsInTurn file name IsBlock first (scene new out) (outcome_of file (cond b (read_fault_of error) cause.Failed))
  ask_fails true e shelf.Missing (rose, missed) =
      (refl, (rose_over first.shelf.misses mid.misses new.misses done.later.misses rose, told_before first.shelf mid done.later name (λ held. held ≡ None) missed), unwritten (grind (arith, nat_tests)))
  ask_fails false e shelf.Missing (rose, missed) =
      failed (inr (rose_over first.shelf.misses mid.misses new.misses done.later.misses rose, untold (grind (arith, nat_tests)) missed))
  ask_fails true e shelf.Failed rose = failed (inl (rose_over first.shelf.faults mid.faults new.faults done.later.faults rose))
  ask_fails false e shelf.Failed rose = failed (inl (rose_over first.shelf.faults mid.faults new.faults done.later.faults rose))

  pub asking_fails : (error : ShelfError) → HasCause mid new name error → StopsInTurn file name IsBlock first (scene new out) (outcome_of file (fault_at place error))
  asking_fails error why = ask_fails (nat_eq place 0) refl error why

-- ---- piece by piece

-- how far a file is answered: this was read of it, and the lines that end in it are answered
pub record IsGoingOn (IsBlock : BlockRule) (Counts : List ℕ → ℕ → Type 0) (name : List ℕ) (place : ℕ) (first now : Scene ⊤) (rest : List ℕ) (sum : ℕ) : Type 0 where
  pub later : IsLater first.shelf now.shelf
  pub faults : first.out.faults ≤ now.out.faults
  pub read : List ℕ
  pub front : Told first.shelf name (Begins read)
  pub long : length read ≡ place
  pub answered : AreAnswered IsBlock Counts first.out now.out read rest sum
  pub begun : IsBegun rest

module _ (file : FileRole) (IsBlock : BlockRule) (Counts : List ℕ → ℕ → Type 0) (name : List ℕ) (first : Scene ⊤) where
  module _ (place : ℕ) (mid : ShelfMeaning) (out : SinkMeaning) (rest : List ℕ) (sum : ℕ) (going : IsGoingOn IsBlock Counts name place first (scene mid out) rest sum) where
    pub up_to_date : IsUpToDate IsBlock name place first (scene mid out)
    up_to_date = record {
      later = going.later;
      faults = going.faults;
      lines = going.answered.lines;
      rest = rest;
      read = told_so first.shelf name (Begins going.read) _ (read_to going.read rest going.answered.lines going.answered.are_lines going.begun.0 going.answered.text_is) going.front;
      place_is = sym going.long ∙ ap length going.answered.text_is;
      wrote = going.answered.wrote;
    }

    module _ (new : ShelfMeaning) (later : IsLater mid new) (into : List ℕ) (n : ℕ) (gave : Gave mid name place n into) where
      gave_first : Told first.shelf name (λ held. IsSomeAnd held (λ file. AreBytesAt file (length going.read) n into))
      gave_first = told_before first.shelf mid going.later name (λ held. IsSomeAnd held (λ file. AreBytesAt file (length going.read) n into)) (subst (λ (from : ℕ). Gave mid name from n into) (sym going.long) gave)

      more_front : Told first.shelf name (Begins (going.read ++ take n into))
      more_front = told_both first.shelf name (Begins going.read) _ _ (begins_more going.read into n) going.front gave_first

      -- the next piece is answered
      pub going_on : n ≤ length into → (after : SinkMeaning) (last : List ℕ) (count : ℕ) → out.faults ≤ after.faults → AreAnswered IsBlock Counts out after (rest ++ take n into) last count → IsBegun last
          → IsGoingOn IsBlock Counts name (place + n) first (scene new after) last (sum + count)
      going_on within after last count le answered begun = record {
        later = later_twice first.shelf mid new going.later later;
        faults = (let one = going.faults in omega (arith, one, le));
        read = going.read ++ take n into;
        front = more_front;
        long = (let before = going.long in omega (arith, before, length-append going.read (take n into), length-take-le n into within));
        answered = answered_twice IsBlock Counts first.out out after (going.read ++ take n into) (rest ++ take n into) last sum count
            (answered_more IsBlock Counts first.out out going.read rest (take n into) sum going.answered) answered;
        begun = begun;
      }

      -- it is not
      pub going_stops : (after : SinkMeaning) (outcome : Outcome) → IsPieceOutcome file IsBlock out after (rest ++ take n into) outcome → StopsInTurn file name IsBlock first (scene new after) outcome
      going_stops after outcome why =
          stops outcome (piece_fails file IsBlock Counts first.out out after (going.read ++ take n into) (rest ++ take n into) sum
          (answered_more IsBlock Counts first.out out going.read rest (take n into) sum going.answered) going.faults outcome why)
        where
          told_to : (lines : List (List ℕ)) (last : List ℕ) → IsReadTo (going.read ++ take n into) lines last → HasReadTo first.shelf name lines last
          told_to lines last read = told_so first.shelf name (Begins (going.read ++ take n into)) (λ held. IsReadTo (unwrap_or held []) lines last) (λ held begins. record {
            are_lines = read.are_lines;
            is_line = read.is_line;
            more = read.more ++ begins.0;
            text_is = begins.1 ∙ (ap (λ (t : List ℕ). t ++ begins.0) read.text_is ∙ append_assoc (lines_text lines ++ last) read.more begins.0);
          }) more_front

          stops : (end : Outcome) → IsPieceOutcome file IsBlock first.out after (going.read ++ take n into) end → StopsInTurn file name IsBlock first (scene new after) end
          stops (TooLong other) (same, stop) =
              (same, record { lines = stop.lines; read = (stop.read.0, told_to stop.lines stop.read.0 stop.read.1, inl stop.read.2); wrote = stop.wrote })
          stops WriteFault (rose, stop) = (rose, record { lines = stop.lines; read = inl (stop.read.0, told_to stop.lines stop.read.0 stop.read.1); wrote = stop.wrote })
          stops OutOfMemory stop = record { lines = stop.lines; read = inl (stop.read.0, told_to stop.lines stop.read.0 stop.read.1); wrote = stop.wrote }
          stops Done none = none
          stops Usage none = none
          stops (Missing other) none = absurd none
          stops (ReadFault other) none = absurd none
          stops (BadRegion fault) none = none
          stops (BadFeed fault) none = none
          stops (Invalid clause at) none = none
          stops (BadCertificate line) none = none
          stops (BadHierarchy fault) none = none
          stops (Unsound clause at by) none = none

    -- there is no more
    pub going_ends : (new : ShelfMeaning) → IsLater mid new → (into : List ℕ) → 0 < length into → Gave mid name place 0 into → AreEnded IsBlock Counts name first (scene new out) rest sum
    going_ends new later into some gave = record {
      bytes = going.read;
      later = later_twice first.shelf mid new going.later later;
      faults = going.faults;
      file = told_both first.shelf name (Begins going.read) _ _ (begins_all going.read into some) going.front (gave_first new later into 0 gave);
      answered = going.answered;
      begun = going.begun;
    }

-- ---- the last line

module _ (file : FileRole) (IsBlock : BlockRule) (Counts : List ℕ → ℕ → Type 0) (name : List ℕ) (first : Scene ⊤) (shelf : ShelfMeaning) (mid : SinkMeaning) (rest : List ℕ) (sum : ℕ)
    (ended : AreEnded IsBlock Counts name first (scene shelf mid) rest sum) where
  -- it ended in a line feed
  pub none_last : rest ≡ [] → (bytes : List ℕ) × HasAnswered IsBlock name bytes first (scene shelf mid) × AreCounted Counts (query_lines bytes) sum
  none_last none =
      let answered = ended.answered in
      let lines : lines_of ended.bytes ≡ answered.lines =
      ap lines_of answered.text_is ∙ (lines_before answered.lines rest answered.are_lines
      ∙ (ap (λ (r : List ℕ). answered.lines ++ lines_of r) none ∙ (ap (λ (l : List (List ℕ)). answered.lines ++ l) lines_none ∙ append-nil answered.lines))) in (
        ended.bytes,
        record {
          later = ended.later;
          faults = ended.faults;
          file = record { file = ended.file; short = subst (All IsShort) (sym lines) answered.short };
          wrote = subst (λ (l : List (List ℕ)). WroteBlocks first.out mid IsBlock (queries_among l)) (sym lines) answered.wrote;
        },
        subst (λ (l : List (List ℕ)). AreCounted Counts (queries_among l) sum) (sym lines) answered.counted,
      )

  module _ (some : 0 < length rest) where
    lines_are : lines_of ended.bytes ≡ ended.answered.lines ++ rest ∷ []
    lines_are = ap lines_of ended.answered.text_is ∙ (lines_before ended.answered.lines rest ended.answered.are_lines ∙ ap (λ (l : List (List ℕ)). ended.answered.lines ++ l) (one rest some ended.begun.0))
      where
        one : (r : List ℕ) → 0 < length r → IsLine r → lines_of r ≡ r ∷ []
        one [] some is = absurd (omega (arith, some))
        one (b ∷ r) some is = lines_one b r is

    short_all : All IsShort (lines_of ended.bytes)
    short_all = subst (All IsShort) (sym lines_are) (All-append IsShort ended.answered.lines (rest ∷ []) ended.answered.short (All-cons IsShort rest [] ended.begun.1 (All-nil IsShort)))

    has_read : HasReadLines first.shelf name ended.bytes
    has_read = record { file = ended.file; short = short_all }

    -- it is answered
    pub last_answered : (out : SinkMeaning) (total : ℕ) → mid.faults ≤ out.faults → WroteBlocks mid out IsBlock (queries_among (rest ∷ [])) → IsSumWith Counts (queries_among (rest ∷ [])) sum total
        → (bytes : List ℕ) × HasAnswered IsBlock name bytes first (scene shelf out) × AreCounted Counts (query_lines bytes) total
    last_answered out total le wrote (count, counted, e) = (
      ended.bytes,
      record {
        later = ended.later;
        faults = (let one = ended.faults in omega (arith, one, le));
        file = has_read;
        wrote = subst (λ (l : List (List ℕ)). WroteBlocks first.out out IsBlock (queries_among l)) (sym lines_are)
            (wrote_twice IsBlock first.out mid out ended.answered.lines (rest ∷ []) ended.answered.wrote wrote);
      },
      subst (AreCounted Counts (query_lines ended.bytes)) (sym e) (subst (λ (l : List (List ℕ)). AreCounted Counts (queries_among l) (sum + count)) (sym lines_are)
          (subst (λ (l : List (List ℕ)). AreCounted Counts l (sum + count)) (sym (queries_join ended.answered.lines (rest ∷ [])))
          (counted_join Counts (queries_among ended.answered.lines) (queries_among (rest ∷ [])) sum count ended.answered.counted counted))),
    )

    -- it is not
    pub last_fails : (out : SinkMeaning) (outcome : Outcome) → IsBlocksOutcome mid out IsBlock (queries_among (rest ∷ [])) outcome → StopsInTurn file name IsBlock first (scene shelf out) outcome
    last_fails out WriteFault (rose, front) = (
      rose_over first.out.faults mid.faults out.faults ended.faults rose,
      record {
        lines = ended.answered.lines ++ rest ∷ [];
        read = inr (ended.bytes, has_read, sym lines_are);
        wrote = wrote_on IsBlock first.out mid out ended.answered.lines (rest ∷ []) ended.answered.wrote front;
      },
    )
    last_fails out OutOfMemory front = record {
      lines = ended.answered.lines ++ rest ∷ [];
      read = inr (ended.bytes, has_read, sym lines_are);
      wrote = wrote_on IsBlock first.out mid out ended.answered.lines (rest ∷ []) ended.answered.wrote front;
    }
    last_fails out Done none = absurd none
    last_fails out Usage none = none
    last_fails out (Missing other) none = absurd none
    last_fails out (ReadFault other) none = absurd none
    last_fails out (TooLong other) none = absurd none
    last_fails out (BadRegion fault) none = none
    last_fails out (BadFeed fault) none = none
    last_fails out (Invalid clause at) none = none
    last_fails out (BadCertificate line) none = none
    last_fails out (BadHierarchy fault) none = none
    last_fails out (Unsound clause at by) none = none

-- ---- before anything is read

-- memory ran out
pub stops_early : (file : FileRole) (name : List ℕ) (IsBlock : BlockRule) (rest : List ℕ → Saying) (shelf : ShelfMeaning) (out : SinkMeaning) → InTurn file name IsBlock rest (scene shelf out) (scene shelf out) OutOfMemory
stops_early file name IsBlock rest shelf out = inl (record { lines = []; read = inl ([], nothing shelf.files); wrote = wrote_none IsBlock out out [] (stays_so out) })
  where
    nothing : (files : Option (List ℕ → Option (List ℕ))) → IfSome files (λ f. IsReadTo (unwrap_or (f name) []) [] [])
    nothing None = tt
    nothing (Some f) = record { are_lines = All-nil IsLine; is_line = All-nil _; more = unwrap_or (f name) []; text_is = refl }
