-- The query line of two lines that are one field each asks what each asks at both ends: from the one, to the other.
use Rattle.plan_base.proofs.Common.{Bor, map, ◌≡◌, ℕ, ◌+◌, ◌<◌, ◌∙◌, get_or, append_assoc, below_more, List, [], ◌∷◌, ◌++◌, length, take, drop, Bool, true, false, cond, not, ◌&&◌, Option, Some, None, Ok, refl, sym, ap, ap₂, subst, arith, nat_lt, position, option_and_then, option_map, position_or_len, take-append_seam, drop-append-add, get_or-append_seam, ltb-false, nat_tests, get_or_append_left, get_or_default, length-append, length-map}
use Rattle.std.proofs.Math.ListN.{get_or-map}
use Rattle.std.proofs.lemmas.List.Folds.{prefix_len-append}
use Rattle.std.proofs.lemmas.List.Sums.{prefix_len-le-length}
use Rattle.plain_texts.specs.{is_space, spaced}
use Rattle.mode_expression.specs.{form_of, IsExpression}
use Rattle.service_days.specs.{date_at}
use Rattle.mode_network.specs.{Endpoint, NetworkLists.NetworkLists}
use Rattle.journey.specs.{Query, Shape, at_space, departs_on, endpoint_of, fields_of, is_filled, shape_of, shape_of_fields, time_at, IsKnown, IsQuery, Asks, asked_by, IsSmall}
use Rattle.journey.proofs.LargeLemmas.{same_size}
use Rattle.planning.specs.{asked_to}
use Rattle.matrix_commands.specs.{query_line_of, inside.IsEndQuery, inside.IsField}

-- ---- the fields of the query line

-- the first space stands behind a text without one
all_passed : (text : List ℕ) → IsField text → position_or_len is_space text ≡ length text
all_passed text field = by_test (nat_lt (position_or_len is_space text) (length text)) refl field
  where
    by_test : (b : Bool) → nat_lt (position_or_len is_space text) (length text) ≡ b → cond b (Some (position_or_len is_space text)) None ≡ None → position_or_len is_space text ≡ length text
    by_test true e none = cc
    by_test false e none = let past = ltb-false _ _ e in let within = prefix_len-le-length (λ b. not (is_space b)) text in omega arith

first_space : (text rest : List ℕ) → IsField text → position is_space (text ++ 32 ∷ rest) ≡ Some (length text)
first_space text rest field =
    let all = all_passed text field in
    let at = prefix_len-append (λ b. not (is_space b)) text (32 ∷ rest) in
    let long = length-append text (32 ∷ rest) in
    grind (arith, nat_tests, all, at, long)

cut : (text rest : List ℕ) → IsField text → at_space (text ++ 32 ∷ rest) ≡ Some (text, rest)
cut text rest field =
    let line = text ++ 32 ∷ rest in
    ap (option_map (λ (k : ℕ). (take k line, drop (k + 1) line))) (first_space text rest field)
    ∙ ap₂ (λ (a b : List ℕ). Some (a, b)) (take-append_seam text (32 ∷ rest)) (drop-append-add text (32 ∷ rest) 1)

module _ (date time expr : List ℕ) (date_field : IsField date) (time_field : IsField time) where
  fields : (from to : List ℕ) → IsField from → IsField to → fields_of (query_line_of date time expr from to) ≡ Some (record { from = from; to = to; date = date; time = time; expr = expr })
  unfolding spaced
  fields from to from_field to_field =
      rw (cut from (to ++ 32 ∷ (date ++ 32 ∷ (time ++ 32 ∷ expr))) from_field, cut to (date ++ 32 ∷ (time ++ 32 ∷ expr)) to_field, cut date (time ++ 32 ∷ expr) date_field, cut time expr time_field) refl

  -- ---- its shape

  -- the parts of a shape of such fields
  record HasParts (from to : List ℕ) (s : Shape) : Type 0 where
    filled : (is_filled date && is_filled time) ≡ true
    from_is : endpoint_of from ≡ Some s.from
    to_is : endpoint_of to ≡ Some s.to
    date_is : s.date ≡ date
    time_is : s.time ≡ time
    expr_is : s.expr ≡ expr

  parts : (from to : List ℕ) (s : Shape) → shape_of_fields (record { from = from; to = to; date = date; time = time; expr = expr }) ≡ Some s → HasParts from to s
  parts from to s e = by_test (is_filled date && is_filled time) refl (endpoint_of from) refl (endpoint_of to) refl e
    where
      by_test : (filled : Bool) → (is_filled date && is_filled time) ≡ filled → (a : Option Endpoint) → endpoint_of from ≡ a → (b : Option Endpoint) → endpoint_of to ≡ b
          → cond filled (option_and_then (λ (x : Endpoint). option_map (λ (y : Endpoint). record { from = x; to = y; date = date; time = time; expr = expr }) b) a) None ≡ Some s → HasParts from to s
      by_test false f a p b q none = cc
      by_test true f None p b q none = cc
      by_test true f (Some x) p None q none = cc
      by_test true f (Some x) p (Some y) q is =
          let shape : record { from = x; to = y; date = date; time = time; expr = expr } ≡ s = cc in
          record {
            filled = f;
            from_is = p ∙ ap (λ (z : Shape). Some z.from) shape;
            to_is = q ∙ ap (λ (z : Shape). Some z.to) shape;
            date_is = ap (λ (z : Shape). z.date) (sym shape);
            time_is = ap (λ (z : Shape). z.time) (sym shape);
            expr_is = ap (λ (z : Shape). z.expr) (sym shape);
          }

  shape_parts : (from to : List ℕ) → IsField from → IsField to → (s : Shape) → shape_of (query_line_of date time expr from to) ≡ Some s → HasParts from to s
  shape_parts from to from_field to_field s e = parts from to s (sym (ap (option_and_then shape_of_fields) (fields from to from_field to_field)) ∙ e)

  parts_shape : (from to : List ℕ) → IsField from → IsField to → (a b : Endpoint) → (is_filled date && is_filled time) ≡ true → endpoint_of from ≡ Some a → endpoint_of to ≡ Some b
      → shape_of (query_line_of date time expr from to) ≡ Some (record { from = a; to = b; date = date; time = time; expr = expr })
  parts_shape from to from_field to_field a b filled from_is to_is =
      ap (option_and_then shape_of_fields) (fields from to from_field to_field) ∙ rw (filled, from_is, to_is) refl

-- ---- what it asks

pub pair_asks : (n : NetworkLists) (places : Option ℕ) (date time expr from to : List ℕ) (p q : Query) → IsEndQuery n places date time expr from p → IsEndQuery n places date time expr to q → Asks n (query_line_of date time expr from to) (asked_to p q)
pair_asks n places date time expr from to p q one other =
    let a = subst (λ (line : List ℕ). IsQuery n line p.from p.to p.depart (form_of p.expr)) one.line_is one.read.asks in
    let b = subst (λ (line : List ℕ). IsQuery n line q.from q.to q.depart (form_of q.expr)) other.line_is other.read.asks in
    let x = shape_parts date time expr one.date_field one.time_field from from one.field one.field a.shape a.reaches.departs.shape_is in
    let y = shape_parts date time expr one.date_field one.time_field to to other.field other.field b.shape b.reaches.departs.shape_is in
    let at_date = subst (λ (d : List ℕ). departs_on n.days (date_at d) (time_at a.shape.time) ≡ Ok p.depart) x.date_is a.reaches.departs.departs in
    record {
      shape = record { from = p.from; to = q.to; date = date; time = time; expr = expr };
      reaches = record {
        departs = record {
          shape_is = parts_shape date time expr one.date_field one.time_field from to one.field other.field p.from q.to x.filled
              (x.from_is ∙ ap (λ (e : Endpoint). Some e) (sym a.from_is)) (y.to_is ∙ ap (λ (e : Endpoint). Some e) (sym b.to_is));
          departs = subst (λ (t : List ℕ). departs_on n.days (date_at date) (time_at t) ≡ Ok p.depart) x.time_is at_date;
        };
        from_known = subst (IsKnown n) (sym a.from_is) a.reaches.from_known;
        to_known = subst (IsKnown n) (sym b.to_is) b.reaches.to_known;
      };
      from_is = refl;
      to_is = refl;
      expression = subst (λ (text : List ℕ). IsExpression text (form_of p.expr)) x.expr_is a.expression;
    }

-- its expression is that of the one, so it has no more places than are allowed
pub pair_small : (n : NetworkLists) (places : Option ℕ) (date time expr from to : List ℕ) (p q : Query) → IsEndQuery n places date time expr from p → IsEndQuery n places date time expr to q
    → IsSmall n places (query_line_of date time expr from to)
pair_small n places date time expr from to p q one other =
    same_size n places p.line (query_line_of date time expr from to) (asked_by p) (asked_to p q) one.read.asks (pair_asks n places date time expr from to p q one other) refl one.small

-- ---- how a query line is put together, and lines that ask as both ends

pub line_is : (date time expr from to : List ℕ) → (((from ++ 32 ∷ to) ++ 32 ∷ date) ++ 32 ∷ time) ++ 32 ∷ expr ≡ query_line_of date time expr from to
unfolding spaced
line_is date time expr from to = simp append_assoc

-- one line and its query more
pub ends_more : (P : List ℕ → Option Query → Type 0) (lines : List (List ℕ)) (queries : List (Option Query)) (q : Option Query) (count : ℕ) → length queries ≡ count
    → ((k : ℕ) → k < count → P (get_or lines k []) (get_or queries k None)) → P (get_or lines count []) q → (k : ℕ) → k < count + 1 → P (get_or lines k []) (get_or (queries ++ q ∷ []) k None)
ends_more P lines queries q count long are is = below_more (λ k. P (get_or lines k []) (get_or (queries ++ q ∷ []) k None)) count
    (λ k lt. subst (P (get_or lines k [])) (sym (get_or_append_left queries (q ∷ []) None k (omega (arith, lt, long)))) (are k lt))
    (subst (P (get_or lines count [])) (sym (ap (λ k. get_or (queries ++ q ∷ []) k None) (sym long) ∙ get_or-append_seam queries q [] None)) is)

-- a line that is lent, in the list of what is lent
pub line_at : (lines : List (Bor (List ℕ))) (k : ℕ) (d : Bor (List ℕ)) → k < length lines → get_or (map (λ (x : Bor (List ℕ)). x.now) lines) k [] ≡ (get_or lines k d).now
line_at lines k d lt = get_or_default (map (λ (x : Bor (List ℕ)). x.now) lines) k [] d.now (omega (arith, lt, length-map lines (λ (x : Bor (List ℕ)). x.now))) ∙ get_or-map (λ (x : Bor (List ℕ)). x.now) lines k d
