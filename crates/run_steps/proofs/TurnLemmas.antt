-- Lines that are answered one after the other, and why no more of them were.
use Rattle.plan_base.proofs.Common.{◌≡◌, ℕ, ◌+◌, ◌≤◌, ◌∙◌, List, [], ◌∷◌, ◌++◌, append_assoc, append-nil, Some, refl, ap, sym, subst, All, All-nil, All-cons, All-append}
use Rattle.plain_texts.specs.{IsLine, lines_text}
use Rattle.plan_base.specs.{SinkMeaning}
use Rattle.plan_base.proofs.MoreWritten.{stays_so}
use Rattle.run_steps.specs.{FileRole, Outcome, Done, Usage, Missing, ReadFault, TooLong, WriteFault, BadRegion, BadFeed, Invalid, BadCertificate, BadHierarchy, Unsound, OutOfMemory, as_query, queries_among, without_return, BlockRule, WroteBlocks, WroteFront, AreCounted, IsReadTo, IsShort, inside.IsBlockOutcome, inside.IsBlocksOutcome, inside.AreAnswered, inside.IsKeepOutcome, inside.IsLineOutcome, inside.IsPieceOutcome}
use Rattle.run_steps.proofs.{Steps.rose_over, JoinLemmas.counted_join, JoinLemmas.queries_join, JoinLemmas.query_alone, JoinLemmas.text_join, JoinLemmas.wrote_none, JoinLemmas.wrote_nothing, JoinLemmas.wrote_on, JoinLemmas.wrote_part, JoinLemmas.wrote_stays, JoinLemmas.wrote_twice}

one_line : (line : List ℕ) → IsLine line → All IsLine (line ∷ [])
one_line line is = All-cons IsLine line [] is (All-nil IsLine)

module _ (IsBlock : BlockRule) (Counts : List ℕ → ℕ → Type 0) where
  pub none_answered : (sink : SinkMeaning) (text : List ℕ) → AreAnswered IsBlock Counts sink sink text text 0
  none_answered sink text = record { lines = []; are_lines = All-nil IsLine; short = All-nil IsShort; text_is = refl; wrote = wrote_nothing IsBlock sink; counted = refl }

  -- the first lines of a text, and then the first lines of what stands behind them
  pub answered_twice : (before mid after : SinkMeaning) (text behind last : List ℕ) (m n : ℕ)
      → AreAnswered IsBlock Counts before mid text behind m → AreAnswered IsBlock Counts mid after behind last n → AreAnswered IsBlock Counts before after text last (m + n)
  answered_twice before mid after text behind last m n first second = record {
    lines = first.lines ++ second.lines;
    are_lines = All-append IsLine first.lines second.lines first.are_lines second.are_lines;
    short = All-append IsShort first.lines second.lines first.short second.short;
    text_is = first.text_is ∙ (ap (λ (t : List ℕ). lines_text first.lines ++ t) second.text_is
        ∙ (sym (append_assoc (lines_text first.lines) (lines_text second.lines) last) ∙ ap (λ (t : List ℕ). t ++ last) (sym (text_join first.lines second.lines))));
    wrote = wrote_twice IsBlock before mid after first.lines second.lines first.wrote second.wrote;
    counted = subst (λ (ls : List (List ℕ)). AreCounted Counts ls (m + n)) (sym (queries_join first.lines second.lines))
        (counted_join Counts (queries_among first.lines) (queries_among second.lines) m n first.counted second.counted);
  }

  -- the text goes on
  pub answered_more : (before after : SinkMeaning) (text behind more : List ℕ) (n : ℕ)
      → AreAnswered IsBlock Counts before after text behind n → AreAnswered IsBlock Counts before after (text ++ more) (behind ++ more) n
  answered_more before after text behind more n are = record {
    lines = are.lines;
    are_lines = are.are_lines;
    short = are.short;
    text_is = ap (λ (t : List ℕ). t ++ more) are.text_is ∙ append_assoc (lines_text are.lines) behind more;
    wrote = are.wrote;
    counted = are.counted;
  }

  -- one line
  pub line_answered : (before after : SinkMeaning) (text line behind : List ℕ) (n : ℕ) → IsLine line → IsShort line → text ≡ line ++ 10 ∷ behind
      → WroteBlocks before after IsBlock (queries_among (line ∷ [])) → AreCounted Counts (queries_among (line ∷ [])) n → AreAnswered IsBlock Counts before after text behind n
  line_answered before after text line behind n is short e wrote counted = record {
    lines = line ∷ [];
    are_lines = one_line line is;
    short = All-cons IsShort line [] short (All-nil IsShort);
    text_is = e ∙ (sym (append_assoc line (10 ∷ []) behind) ∙ ap (λ (t : List ℕ). t ++ behind) (sym (append-nil (line ++ 10 ∷ []))));
    wrote = wrote;
    counted = counted;
  }

-- ---- why no more

module _ (IsBlock : BlockRule) (before after : SinkMeaning) where
  -- the block of a query line was not written
  pub block_fails : (line query : List ℕ) → as_query (without_return line) ≡ Some query → (outcome : Outcome) → IsBlockOutcome before after (IsBlock query) outcome
      → IsBlocksOutcome before after IsBlock (queries_among (line ∷ [])) outcome
  block_fails line query is WriteFault (rose, part) = (rose, subst (WroteFront before after IsBlock) (sym (query_alone line query is)) (wrote_part IsBlock before after query part))
  block_fails line query is OutOfMemory same = wrote_none IsBlock before after (queries_among (line ∷ [])) same
  block_fails line query is Done none = none
  block_fails line query is Usage none = none
  block_fails line query is (Missing file) none = none
  block_fails line query is (ReadFault file) none = none
  block_fails line query is (TooLong file) none = none
  block_fails line query is (BadRegion fault) none = none
  block_fails line query is (BadFeed fault) none = none
  block_fails line query is (Invalid clause at) none = none
  block_fails line query is (BadCertificate other) none = none
  block_fails line query is (BadHierarchy fault) none = none
  block_fails line query is (Unsound clause at by) none = none

-- a line was not kept whole
pub whole_fails : (file : FileRole) (IsBlock : BlockRule) (sink : SinkMeaning) (line : List ℕ) (outcome : Outcome) → IsKeepOutcome file line outcome → IsLineOutcome file IsBlock sink sink line outcome
whole_fails file IsBlock sink line (TooLong other) (same, long) = (same, long, stays_so sink)
whole_fails file IsBlock sink line OutOfMemory none = wrote_none IsBlock sink sink (queries_among (line ∷ [])) (stays_so sink)
whole_fails file IsBlock sink line WriteFault none = absurd none
whole_fails file IsBlock sink line Done none = none
whole_fails file IsBlock sink line Usage none = none
whole_fails file IsBlock sink line (Missing other) none = none
whole_fails file IsBlock sink line (ReadFault other) none = none
whole_fails file IsBlock sink line (BadRegion fault) none = none
whole_fails file IsBlock sink line (BadFeed fault) none = none
whole_fails file IsBlock sink line (Invalid clause at) none = none
whole_fails file IsBlock sink line (BadCertificate other) none = none
whole_fails file IsBlock sink line (BadHierarchy fault) none = none
whole_fails file IsBlock sink line (Unsound clause at by) none = none

-- behind lines that were read
read_behind : (text behind : List ℕ) (lines : List (List ℕ)) → All IsLine lines → text ≡ lines_text lines ++ behind
    → (next : List (List ℕ)) (rest : List ℕ) → IsReadTo behind next rest → IsReadTo text (lines ++ next) rest
read_behind text behind lines are e next rest read = record {
  are_lines = All-append IsLine lines next are read.are_lines;
  is_line = read.is_line;
  more = read.more;
  text_is = e ∙ (ap (λ (t : List ℕ). lines_text lines ++ t) (read.text_is ∙ append_assoc (lines_text next) rest read.more)
      ∙ (sym (append_assoc (lines_text lines) (lines_text next) (rest ++ read.more))
      ∙ (ap (λ (t : List ℕ). t ++ (rest ++ read.more)) (sym (text_join lines next)) ∙ sym (append_assoc (lines_text (lines ++ next)) rest read.more))));
}

-- nothing but this front of a line was read
read_front : (text rest more : List ℕ) → IsLine rest → text ≡ rest ++ more → IsReadTo text [] rest
read_front text rest more is e = record { are_lines = All-nil IsLine; is_line = is; more = more; text_is = e }

-- a line was read
read_line : (text line behind : List ℕ) → IsLine line → text ≡ line ++ 10 ∷ behind → IsReadTo text (line ∷ []) []
read_line text line behind is e = record {
  are_lines = one_line line is;
  is_line = All-nil _;
  more = behind;
  text_is = e ∙ (sym (append_assoc line (10 ∷ []) behind) ∙ ap (λ (t : List ℕ). t ++ behind) (sym (append-nil _ ∙ append-nil (line ++ 10 ∷ []))));
}

module _ (file : FileRole) (IsBlock : BlockRule) (Counts : List ℕ → ℕ → Type 0) where
  -- it failed behind lines that were answered
  pub piece_fails : (before mid after : SinkMeaning) (text behind : List ℕ) (n : ℕ) → AreAnswered IsBlock Counts before mid text behind n → before.faults ≤ mid.faults
      → (outcome : Outcome) → IsPieceOutcome file IsBlock mid after behind outcome → IsPieceOutcome file IsBlock before after text outcome
  piece_fails before mid after text behind n are le (TooLong other) (e, stop) = (
    e,
    record {
      lines = are.lines ++ stop.lines;
      read = (stop.read.0, read_behind text behind are.lines are.are_lines are.text_is stop.lines stop.read.0 stop.read.1, stop.read.2);
      wrote = wrote_twice IsBlock before mid after are.lines stop.lines are.wrote stop.wrote;
    },
  )
  piece_fails before mid after text behind n are le WriteFault (rose, stop) = (
    rose_over before.faults mid.faults after.faults le rose,
    record {
      lines = are.lines ++ stop.lines;
      read = (stop.read.0, read_behind text behind are.lines are.are_lines are.text_is stop.lines stop.read.0 stop.read.1);
      wrote = wrote_on IsBlock before mid after are.lines stop.lines are.wrote stop.wrote;
    },
  )
  piece_fails before mid after text behind n are le OutOfMemory stop = record {
    lines = are.lines ++ stop.lines;
    read = (stop.read.0, read_behind text behind are.lines are.are_lines are.text_is stop.lines stop.read.0 stop.read.1);
    wrote = wrote_on IsBlock before mid after are.lines stop.lines are.wrote stop.wrote;
  }
  piece_fails before mid after text behind n are le Done none = none
  piece_fails before mid after text behind n are le Usage none = none
  piece_fails before mid after text behind n are le (Missing other) none = none
  piece_fails before mid after text behind n are le (ReadFault other) none = none
  piece_fails before mid after text behind n are le (BadRegion fault) none = none
  piece_fails before mid after text behind n are le (BadFeed fault) none = none
  piece_fails before mid after text behind n are le (Invalid clause at) none = none
  piece_fails before mid after text behind n are le (BadCertificate line) none = none
  piece_fails before mid after text behind n are le (BadHierarchy fault) none = none
  piece_fails before mid after text behind n are le (Unsound clause at by) none = none

  -- a line was not answered
  pub line_fails : (before after : SinkMeaning) (text line behind : List ℕ) → IsLine line → text ≡ line ++ 10 ∷ behind
      → (outcome : Outcome) → IsLineOutcome file IsBlock before after line outcome → IsPieceOutcome file IsBlock before after text outcome
  line_fails before after text line behind is e (TooLong other) (same, long, stays) = (
    same,
    record {
      lines = [];
      read = (line, read_front text line (10 ∷ behind) is e, long);
      wrote = wrote_stays IsBlock before before after [] (wrote_nothing IsBlock before) stays;
    },
  )
  line_fails before after text line behind is e WriteFault (rose, front) = (rose, record { lines = line ∷ []; read = ([], read_line text line behind is e); wrote = front })
  line_fails before after text line behind is e OutOfMemory front = record { lines = line ∷ []; read = ([], read_line text line behind is e); wrote = front }
  line_fails before after text line behind is e Done none = none
  line_fails before after text line behind is e Usage none = none
  line_fails before after text line behind is e (Missing other) none = none
  line_fails before after text line behind is e (ReadFault other) none = none
  line_fails before after text line behind is e (BadRegion fault) none = none
  line_fails before after text line behind is e (BadFeed fault) none = none
  line_fails before after text line behind is e (Invalid clause at) none = none
  line_fails before after text line behind is e (BadCertificate other) none = none
  line_fails before after text line behind is e (BadHierarchy fault) none = none
  line_fails before after text line behind is e (Unsound clause at by) none = none

  -- a front of a line was not kept
  pub keep_fails : (sink : SinkMeaning) (rest : List ℕ) → IsLine rest → (outcome : Outcome) → IsKeepOutcome file rest outcome → IsPieceOutcome file IsBlock sink sink rest outcome
  keep_fails sink rest is (TooLong other) (same, long) =
      (same, record { lines = []; read = (rest, read_front rest rest [] is (sym (append-nil rest)), long); wrote = wrote_nothing IsBlock sink })
  keep_fails sink rest is OutOfMemory none =
      record { lines = []; read = (rest, read_front rest rest [] is (sym (append-nil rest))); wrote = wrote_none IsBlock sink sink [] (stays_so sink) }
  keep_fails sink rest is WriteFault none = absurd none
  keep_fails sink rest is Done none = none
  keep_fails sink rest is Usage none = none
  keep_fails sink rest is (Missing other) none = none
  keep_fails sink rest is (ReadFault other) none = none
  keep_fails sink rest is (BadRegion fault) none = none
  keep_fails sink rest is (BadFeed fault) none = none
  keep_fails sink rest is (Invalid clause at) none = none
  keep_fails sink rest is (BadCertificate line) none = none
  keep_fails sink rest is (BadHierarchy fault) none = none
  keep_fails sink rest is (Unsound clause at by) none = none
