-- What is right for some lines and for the lines behind them is right for all of them.
use Rattle.plan_base.proofs.Common.{◌≡◌, ℕ, ◌+◌, ◌∙◌, inl, inr, List, [], ◌∷◌, ◌++◌, append_assoc, take, Option, Some, refl, ap, sym, subst, arith, option_to_list}
use Rattle.plain_texts.specs.{lines_text, with_feed}
use Rattle.plan_base.specs.{SinkMeaning, Stays}
use Rattle.plan_base.proofs.MoreWritten.{appended_nothing, appended_stays, appended_twice}
use Rattle.run_steps.specs.{as_query, without_return, queries_among, BlockRule, AreBlocks, WroteBlocks, BeginsNext, WroteFront, WrotePart, AreCounted}

pub queries_join : (xs ys : List (List ℕ)) → queries_among (xs ++ ys) ≡ queries_among xs ++ queries_among ys
queries_join [] ys = refl
queries_join (x ∷ xs) ys =
    let first = option_to_list (as_query (without_return x)) in
    ap (λ (q : List (List ℕ)). first ++ q) (queries_join xs ys) ∙ sym (append_assoc first (queries_among xs) (queries_among ys))

pub text_join : (xs ys : List (List ℕ)) → lines_text (xs ++ ys) ≡ lines_text xs ++ lines_text ys
text_join [] ys = refl
text_join (x ∷ xs) ys = ap (λ (t : List ℕ). with_feed x ++ t) (text_join xs ys) ∙ sym (append_assoc (with_feed x) (lines_text xs) (lines_text ys))

pub query_alone : (line query : List ℕ) → as_query (without_return line) ≡ Some query → queries_among (line ∷ []) ≡ query ∷ []
query_alone line query is = ap (λ (o : Option (List ℕ)). option_to_list o ++ []) is

-- what is counted for lines, and for the lines behind them
pub counted_join : (Counts : List ℕ → ℕ → Type 0) (xs ys : List (List ℕ)) (m n : ℕ) → AreCounted Counts xs m → AreCounted Counts ys n → AreCounted Counts (xs ++ ys) (m + n)
counted_join Counts [] ys m n none more = subst (AreCounted Counts ys) (omega (arith, none)) more
counted_join Counts (x ∷ xs) ys m n (count, rest, is, others, e) more = (count, rest + n, is, counted_join Counts xs ys rest n others more, omega (arith, e))

module _ (IsBlock : BlockRule) where
  pub blocks_join : (xs ys : List (List ℕ)) (out more : List ℕ) → AreBlocks IsBlock xs out → AreBlocks IsBlock ys more → AreBlocks IsBlock (xs ++ ys) (out ++ more)
  blocks_join [] ys out more none are = subst (λ (o : List ℕ). AreBlocks IsBlock ys (o ++ more)) (sym none) are
  blocks_join (x ∷ xs) ys out more (block, rest, is, others, e) are =
      (block, rest ++ more, is, blocks_join xs ys rest more others are, ap (λ (o : List ℕ). o ++ more) e ∙ append_assoc block rest more)

  -- nothing of the next block is written
  nothing_next : (lines : List (List ℕ)) → BeginsNext IsBlock lines []
  nothing_next [] = refl
  nothing_next (line ∷ lines) = inl refl

  -- the sink has taken nothing
  pub wrote_nothing : (sink : SinkMeaning) → WroteBlocks sink sink IsBlock []
  wrote_nothing sink = record { out = []; is = refl; appended = appended_nothing sink }

  -- it has taken blocks, and nothing since
  pub wrote_stays : (old mid new : SinkMeaning) (lines : List (List ℕ)) → WroteBlocks old mid IsBlock lines → Stays mid new → WroteBlocks old new IsBlock lines
  wrote_stays old mid new lines wrote same = record { out = wrote.out; is = wrote.is; appended = appended_stays old mid new wrote.out wrote.appended same }

  -- nothing of the blocks of lines is a front of them
  pub wrote_none : (old new : SinkMeaning) (lines : List (List ℕ)) → Stays old new → WroteFront old new IsBlock lines
  wrote_none old new lines same = record {
    out = [];
    is = record { done = []; rest = lines; whole = []; part = []; lines_are = refl; blocks = refl; next = nothing_next lines; out_is = refl };
    appended = appended_stays old old new [] (appended_nothing old) same;
  }

  -- a front of a block was written
  pub wrote_part : (old new : SinkMeaning) (line : List ℕ) → WrotePart old new (IsBlock line) → WroteFront old new IsBlock (line ∷ [])
  wrote_part old new line part = record {
    out = take part.part.count part.block;
    is = record {
      done = [];
      rest = line ∷ [];
      whole = [];
      part = take part.part.count part.block;
      lines_are = refl;
      blocks = refl;
      next = inr (part.block, part.part.count, part.is, refl);
      out_is = refl;
    };
    appended = part.part.front;
  }

  -- blocks of lines, and of the query lines behind them
  pub wrote_twice : (old mid new : SinkMeaning) (xs ys : List (List ℕ)) → WroteBlocks old mid IsBlock (queries_among xs) → WroteBlocks mid new IsBlock (queries_among ys)
      → WroteBlocks old new IsBlock (queries_among (xs ++ ys))
  wrote_twice old mid new xs ys first second = subst (WroteBlocks old new IsBlock) (sym (queries_join xs ys)) (record {
    out = first.out ++ second.out;
    is = blocks_join (queries_among xs) (queries_among ys) first.out second.out first.is second.is;
    appended = appended_twice old mid new first.out second.out first.appended second.appended;
  })

  pub wrote_on : (old mid new : SinkMeaning) (xs ys : List (List ℕ)) → WroteBlocks old mid IsBlock (queries_among xs) → WroteFront mid new IsBlock (queries_among ys)
      → WroteFront old new IsBlock (queries_among (xs ++ ys))
  wrote_on old mid new xs ys first second = subst (WroteFront old new IsBlock) (sym (queries_join xs ys)) (record {
    out = first.out ++ second.out;
    is = record {
      done = queries_among xs ++ second.is.done;
      rest = second.is.rest;
      whole = first.out ++ second.is.whole;
      part = second.is.part;
      lines_are = ap (λ (l : List (List ℕ)). queries_among xs ++ l) second.is.lines_are ∙ sym (append_assoc (queries_among xs) second.is.done second.is.rest);
      blocks = blocks_join (queries_among xs) second.is.done first.out second.is.whole first.is second.is.blocks;
      next = second.is.next;
      out_is = ap (λ (o : List ℕ). first.out ++ o) second.is.out_is ∙ sym (append_assoc first.out second.is.whole second.is.part);
    };
    appended = appended_twice old mid new first.out second.out first.appended second.appended;
  })
