-- The crossings along the patterns of a timetable, one after another.
use Rattle.plan_base.proofs.Common.{◌≡◌, ◌∙◌, ℕ, ◌+◌, ◌<◌, inl, inr, List, [], ◌∷◌, ◌++◌, length, Option, Some, All, All-nil, All-push, All-from_get_or, refl, sym, ap, subst, arith, slice_get, slice_index, slice_index_or, take, length_push, below_more, get_or_append_left, get_or_push}
use Rattle.timetable_arcs.specs.{Call, TableLists, IsTable, pattern_trip, no_call}
use Rattle.timetable_arcs.proofs.TableLemmas.{pattern_stops}
use Rattle.mode_network.specs.{NetworkLists.NetworkLists, IsNetwork, IsTimetableOf, stop_node}
use Rattle.rounds.specs.{Line, IsLine}
use Rattle.rounds.proofs.RowLemmas.{each_more}

-- the calls of a pattern are at stops that have names
pub named_stops : (n : NetworkLists) → IsNetwork n → (t : TableLists) → IsTable t → IsTimetableOf n t → (p : ℕ) → p < length t.patterns → All (λ (call : Call). call.stop < length n.stop_names) (pattern_trip t p).calls
named_stops n network t table of p lt = subst (λ count. All (λ (call : Call). call.stop < count) (pattern_trip t p).calls) (of.stops ∙ sym network.parts.one_name_each) (pattern_stops t table p lt)

-- one call more
pub line_push : (n : NetworkLists) (nodes : List ℕ) (calls : List Call) (line : List ℕ) (call : Call) (place : ℕ) → IsLine n nodes calls line → place < length nodes → slice_index nodes place ≡ stop_node n call.stop
    → IsLine n nodes (calls ++ call ∷ []) (line ++ place ∷ [])
line_push n nodes calls line call place is low at = record {
  each = omega (arith, is.each, length_push calls call, length_push line place);
  within = All-push (λ j. j < length nodes) line place is.within low;
  are = λ k lt. below_more (λ k. slice_index nodes (slice_index (line ++ place ∷ []) k) ≡ stop_node n (slice_index_or (calls ++ call ∷ []) k no_call).stop) (length calls)
      (λ k lt. rw (get_or_append_left line (place ∷ []) 0 k (omega (arith, lt, is.each)), get_or_append_left calls (call ∷ []) no_call k lt) (is.are k lt))
      (rw (get_or_push line place 0 (length calls) is.each, get_or_push calls call no_call (length calls) refl) at)
      k (omega (arith, lt, length_push calls call));
}

-- the lines of the first so many patterns
pub record AreLinesBelow (n : NetworkLists) (t : TableLists) (nodes : List ℕ) (count : ℕ) (lines : List Line) : Type 0 where
  pub many : length lines ≡ count
  pub each : (p : ℕ) (line : Line) → slice_get lines p ≡ Some line → IsLine n nodes (pattern_trip t p).calls line.crossings.items

-- and one more
pub lines_more : (n : NetworkLists) (t : TableLists) (nodes : List ℕ) (count : ℕ) (lines : List Line) (line : Line) → AreLinesBelow n t nodes count lines → IsLine n nodes (pattern_trip t count).calls line.crossings.items
    → AreLinesBelow n t nodes (count + 1) (lines ++ line ∷ [])
lines_more n t nodes count lines line below is = record {
  many = omega (arith, below.many, length_push lines line);
  each = each_more (λ p (x : Line). IsLine n nodes (pattern_trip t p).calls x.crossings.items) lines line below.each (subst (λ k. IsLine n nodes (pattern_trip t k).calls line.crossings.items) (sym below.many) is);
}
