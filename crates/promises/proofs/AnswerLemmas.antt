-- What `answer` prints, from what is said of a run with its words.
use Rattle.plan_base.proofs.Common.{◌≡◌, ℕ, ◌++◌, ◌∙◌, inl, inr, List, [], ◌∷◌, Some, None, refl, sym, ap, subst, ⊤}
use Rattle.std.specs.List.{concat}
use Rattle.plan_base.specs.{Caps}
use Rattle.plan_base.proofs.MoreWritten.{appended_stays}
use Rattle.command_words.specs.{Request, AsksFor, answer}
use Rattle.command_words.proofs.PlainForms.{plain_asks}
use Rattle.hierarchy_commands.specs.{OnHierarchyIfNamed}
use Rattle.mode_network.specs.NetworkLists.{NetworkLists}
use Rattle.journey.specs.{BlockBody, Journey, Nothing, Refused, HasNone, IsBest, IsBoardedBody, IsRightBody, IsBlockText}
use Rattle.run_steps.specs.{declared.limits.Limits.Limits, declared.outcome.FileRole.TheVariants.Queries, Done, with_shelf, Files, AreBlocks, query_lines, Scene.Scene, InTurn.InTurn}
use Rattle.answer_commands.specs.{IsAnswer, WritesSettled}
use Rattle.planner_core.specs.{says, IsOutcome}
use Rattle.promises.specs.{AreWords, TellsRight, AsksOrTellsFault, EachBlock, IsPrinted, AnswerPrintsRightBlocks}
use Rattle.promises.proofs.{AskedLemmas.runs_are_as_asked, LineLemmas.same_asked, LineLemmas.not_both, RunLemmas.DidReadRegion, RunLemmas.region_done, RunLemmas.same_output, RunLemmas.told_of}

-- ---- what the words ask for

abbrev asked_for : List ℕ → List ℕ → Request
asked_for region queries = answer region queries None None None

words_ask : (words : List (List ℕ)) (region queries : List ℕ) → AreWords words region queries → AsksFor words (asked_for region queries)
words_ask words region queries are =
    plain_asks words (asked_for region queries)
    (None, None, record { program = are.program; are = are.are; plain = (are.region_plain, (are.queries_plain, tt)) }, refl)

-- a run with words that did all of its work is one of what they ask for
done_as_asked : (caps : Caps) (words : List (List ℕ)) (r : Request) → AsksFor words r → (old new : Scene ⊤) → IsOutcome caps words old new Done → says caps r old new Done
done_as_asked caps words r asks old new is = elim (runs_are_as_asked caps words r asks old new Done is) [
  | inl ends ↦ (let none = ends.0 in absurd (cc))
  | inr said ↦ said
]

-- ---- blocks

abbrev unlimited : Limits
unlimited = record { places = None; labels = None }

-- what a block tells, of a line that asks something
told_body : (n : NetworkLists) (line block : List ℕ) (body : BlockBody) → IsRightBody n line body → IsBoardedBody n body → IsBlockText n line body block → TellsRight n line block
told_body n line block (Journey j) (asked, asks, best) boarded tells other also =
    (Some j, (subst (λ q. IsBest n q j) (same_asked n line asked other asks also) best, boarded), tells)
told_body n line block Nothing (asked, asks, none) boarded tells other also =
    (None, subst (HasNone n) (same_asked n line asked other asks also) none, tells)
told_body n line block (Refused fault) refused boarded tells other also = absurd (not_both n line other fault also refused)

-- and of one that asks nothing
refused_body : (n : NetworkLists) (line block : List ℕ) (body : BlockBody) → IsRightBody n line body → IsBlockText n line body block → AsksOrTellsFault n line block
refused_body n line block (Journey j) (asked, asks, best) tells = inl (asked, asks)
refused_body n line block Nothing (asked, asks, none) tells = inl (asked, asks)
refused_body n line block (Refused fault) refused tells = inr (record { fault = fault; refused = refused; told = tells })

told_block : (n : NetworkLists) (line block : List ℕ) → IsAnswer n None unlimited line block → TellsRight n line block
told_block n line block (inl (count, large, is)) = absurd large
told_block n line block (inr (small, is)) = told_body n line block is.body is.right is.boarded is.tells

refused_block : (n : NetworkLists) (line block : List ℕ) → IsAnswer n None unlimited line block → AsksOrTellsFault n line block
refused_block n line block (inl (count, large, is)) = absurd large
refused_block n line block (inr (small, is)) = refused_body n line block is.body is.right is.tells

-- the blocks of which an output consists
module _ (Q : List ℕ → List ℕ → Type 0) where
  abbrev blocks_of : (lines : List (List ℕ)) (out : List ℕ) → AreBlocks Q lines out → List (List ℕ)
  blocks_of [] out none = []
  blocks_of (line ∷ lines) out (block, rest, is, others, e) = block ∷ blocks_of lines rest others

  are_all : (lines : List (List ℕ)) (out : List ℕ) (are : AreBlocks Q lines out) → out ≡ concat (blocks_of lines out are)
  are_all [] out none = none
  are_all (line ∷ lines) out (block, rest, is, others, e) = e ∙ ap (λ o. block ++ o) (are_all lines rest others)

  each_block : (P : List ℕ → List ℕ → Type 0) → ((line block : List ℕ) → Q line block → P line block)
      → (lines : List (List ℕ)) (out : List ℕ) (are : AreBlocks Q lines out) → EachBlock P lines (blocks_of lines out are)
  each_block P shows [] out none = tt
  each_block P shows (line ∷ lines) out (block, rest, is, others, e) = (shows line block is, each_block P shows lines rest others)

-- ---- the whole

module _ (caps : Caps) (files : Files) (region queries out : List ℕ) where
  abbrev Rest : NetworkLists → Scene ⊤ → Scene ⊤ → Type 0
  Rest n old new = InTurn Queries queries (IsAnswer n None unlimited) (WritesSettled n None unlimited) old new Done

  printed : (old new : Scene ⊤) (before : List ℕ) → old.out.bytes ≡ Some before → new.out.bytes ≡ Some (before ++ out)
      → (read : DidReadRegion files caps region (λ n. OnHierarchyIfNamed n None (λ h. InTurn Queries queries (IsAnswer n h unlimited) (WritesSettled n h unlimited))) old new)
      → Rest read.network (with_shelf old read.mid) new → IsPrinted caps files region queries out
  printed old new before stood stands read (inl stops) = absurd stops
  printed old new before stood stands read (inr (bytes, mid, answered, (ends, stays))) =
      let wrote = answered.wrote in
      let same = same_output old.out new.out before wrote.out out stood (appended_stays old.out mid.out new.out wrote.out wrote.appended stays) stands in
      let n = read.network in
      let IsBlock = IsAnswer n None unlimited in
      let lines = query_lines bytes in
      record {
        told = record {
          network = n;
          region_bytes = read.bytes;
          region_file = read.held;
          spells = record { region = read.spells.decoded.region; spelled = read.spells.decoded.spelled };
          queries_bytes = bytes;
          queries_file = told_of read.mid files queries read.tells (λ h. h ≡ Some bytes) answered.file.file;
          blocks = blocks_of IsBlock lines wrote.out wrote.is;
          right = each_block IsBlock (TellsRight n) (told_block n) lines wrote.out wrote.is;
          out_is = sym same ∙ are_all IsBlock lines wrote.out wrote.is;
        };
        this_one = read.spells;
        rules = read.rules;
        refused = each_block IsBlock (AsksOrTellsFault n) (refused_block n) lines wrote.out wrote.is;
      }

pub answer_prints_right_blocks : AnswerPrintsRightBlocks
answer_prints_right_blocks caps words region queries are files out run =
    let said = done_as_asked caps words (asked_for region queries) (words_ask words region queries are) run.old run.new run.said in
    let read = region_done files caps region (λ n. OnHierarchyIfNamed n None (λ h. InTurn Queries queries (IsAnswer n h unlimited) (WritesSettled n h unlimited))) run.old run.new run.told said in
    printed caps files region queries out run.old run.new run.before run.stood run.stands read read.says
