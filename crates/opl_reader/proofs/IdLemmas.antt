-- An id that is read has at most 18 digits, so each node and way on a line has such an id.
use Rattle.plan_base.proofs.Common.{◌≡◌, ℕ, zero, suc, ◌+◌, ◌*◌, ◌-◌, ◌^◌, ◌<◌, ◌≤◌, List, [], ◌∷◌, length, map, fold, refl, sym, subst, ◌∙◌, arith, Bool, true, false, cond, ℤ, pos, neg_ℤ, unsigned_abs, Option, Some, None, option_map, IfSome, nat_le, nat_lt, ◌&&◌, ◌==◌, unwrap_or, AllByRecursion, list_all, nat_tests, none-some, same_Some, cond_some, pow-suc}
use Rattle.plain_texts.specs.{digit_of, more}
use Rattle.opl_reader.specs.{Element, Line, Passed, Bad, ◌>>=◌, at_blanks, digit_step, osm_id_at, up_to_eighteen_digits_at, IsOsmId, is_field, is_plain_byte, visible_of, place_in, tags_in, references_in, node_by_tags, way_by_tags, node_by_fields, way_by_fields, element_line, words_line, text_line, map_line_of, declared.lines.Line.TheVariants.Node, declared.lines.Line.TheVariants.Way}
use Rattle.opl_reader.specs.declared.objects.Element.TheVariants as element
use Rattle.opl_reader.proofs.Powers.{powers_up}

fold_none : (ds : List ℕ) → fold (more digit_step) None ds ≡ None
fold_none [] = refl
fold_none (b ∷ bs) = fold_none bs

small_digit : (b d : ℕ) → digit_of b ≡ Some d → d < 10
small_digit b d e = let parts = cond_some (nat_le 48 b && nat_le b 57) (b - 48) d e in grind (arith, nat_tests, parts.0, parts.1)

fold_within : (ds : List ℕ) (v k n : ℕ) → v < 10 ^ k → fold (more digit_step) (Some v) ds ≡ Some n → n < 10 ^ (k + length ds)
fold_within [] v k n h e = let same : v ≡ n = same_Some v n e in let none : k + 0 ≡ k = omega arith in rw none (subst (λ x. x < 10 ^ k) same h)
fold_within (b ∷ bs) v k n h e = by_digit (digit_of b) refl e (λ d below e. fold_within bs (v * 10 + d) (suc k) n (rw (pow-suc 10 k) (omega (arith, h, below))) e)
  where
    by_digit : (o : Option ℕ) → digit_of b ≡ o → fold (more digit_step) (option_map (λ d. v * 10 + d) o) bs ≡ Some n
        → ((d : ℕ) → d < 10 → fold (more digit_step) (Some (v * 10 + d)) bs ≡ Some n → n < 10 ^ (suc k + length bs)) → n < 10 ^ (k + suc (length bs))
    by_digit None is e rest = absurd (none-some n (sym (fold_none bs) ∙ e))
    by_digit (Some d) is e rest = let more : suc k + length bs ≡ k + suc (length bs) = omega arith in subst (λ j. n < 10 ^ j) more (rest d (small_digit b d is) e)

digits_within : (ds : List ℕ) (n : ℕ) → up_to_eighteen_digits_at ds ≡ Some n → n < 10 ^ 18
unfolding up_to_eighteen_digits_at
digits_within ds n e = by_test (nat_lt 0 (length ds) && nat_le (length ds) 18) refl e
  where
    by_test : (t : Bool) → (nat_lt 0 (length ds) && nat_le (length ds) 18) ≡ t → cond t (fold (more digit_step) (Some 0) ds) None ≡ Some n → n < 10 ^ 18
    by_test true is e =
        let few : length ds ≤ 18 = grind (arith, nat_tests, is) in
        omega (arith, fold_within ds 0 0 n (omega arith) e, powers_up 10 (0 + length ds) 18 (omega arith) (omega (arith, few)))
    by_test false is e = absurd (none-some n e)

size_of_neg : (n : ℕ) → unsigned_abs (neg_ℤ (pos n)) ≡ n
size_of_neg zero = refl
size_of_neg (suc n) = refl

pub id_within : (text : List ℕ) (id : ℤ) → osm_id_at text ≡ Some id → IsOsmId id
unfolding osm_id_at
id_within [] id e = absurd (none-some id e)
id_within (b ∷ bs) id e = by_sign (b == 45) e
  where
    minus : (o : Option ℕ) → up_to_eighteen_digits_at bs ≡ o → option_map (λ n. neg_ℤ (pos n)) o ≡ Some id → IsOsmId id
    minus None is e = absurd (none-some id e)
    minus (Some n) is e = subst IsOsmId (same_Some (neg_ℤ (pos n)) id e) (subst (λ k. k < 10 ^ 18) (sym (size_of_neg n)) (digits_within bs n is))

    plus : (o : Option ℕ) → up_to_eighteen_digits_at (b ∷ bs) ≡ o → option_map pos o ≡ Some id → IsOsmId id
    plus None is e = absurd (none-some id e)
    plus (Some n) is e = subst IsOsmId (same_Some (pos n) id e) (digits_within (b ∷ bs) n is)

    by_sign : (t : Bool) → cond t (option_map (λ n. neg_ℤ (pos n)) (up_to_eighteen_digits_at bs)) (option_map pos (up_to_eighteen_digits_at (b ∷ bs))) ≡ Some id → IsOsmId id
    by_sign true e = minus (up_to_eighteen_digits_at bs) refl e
    by_sign false e = plus (up_to_eighteen_digits_at (b ∷ bs)) refl e

-- what stands on a line has an id
abbrev pub HasId : Line → Type 0
HasId Passed = Unit {0}
HasId Bad = Unit {0}
HasId (Node node) = IsOsmId node.id
HasId (Way way) = IsOsmId way.id

has_either : (t : Bool) (x y : Line) → HasId x → HasId y → HasId (cond t x y)
has_either true x y h k = h
has_either false x y h k = k

has_behind : {A : Type 0} (o : Option A) (f : A → Option Line) → ((a : A) → o ≡ Some a → IfSome (f a) HasId) → IfSome (o >>= f) HasId
has_behind None f h = tt
has_behind (Some a) f h = h a refl

has_or_bad : (o : Option Line) → IfSome o HasId → HasId (unwrap_or o Bad)
has_or_bad None h = tt
has_or_bad (Some line) h = h

has_line : (e : Element) (id : List ℕ) (fields : List (List ℕ)) → IfSome (element_line e id fields) HasId
unfolding node_by_fields way_by_fields node_by_tags way_by_tags
has_line element.Node text fields =
    has_behind (tags_in element.Node fields) _ (λ tags _.
    has_behind (osm_id_at text) _ (λ id is.
    has_behind (visible_of fields) _ (λ visible _.
    has_behind (place_in fields) _ (λ place _.
    has_either visible _ Passed (id_within text id is) tt))))
has_line element.Way text fields =
    has_behind (tags_in element.Way fields) _ (λ tags _.
    has_behind (references_in fields) _ (λ references _.
    has_behind (osm_id_at text) _ (λ id is.
    has_behind (visible_of fields) _ (λ visible _.
    has_either visible _ Passed (id_within text id is) tt))))

has_words : (e : Element) (words : List (List ℕ)) → HasId (words_line e words)
has_words e [] = tt
has_words e (id ∷ fields) = has_either (list_all is_field fields) _ Bad (has_or_bad (element_line e id fields) (has_line e id fields)) tt

has_text : (e : Element) (text : List ℕ) → HasId (text_line e text)
unfolding text_line
has_text e text = has_either (list_all is_plain_byte text) _ Bad (has_words e (at_blanks text)) tt

pub line_has_id : (text : List ℕ) → HasId (map_line_of text)
unfolding map_line_of
line_has_id [] = tt
line_has_id (b ∷ text) =
    has_either (b == 110) _ _ (has_text element.Node text)
    (has_either (b == 119) _ _ (has_text element.Way text) (has_either _ Passed Bad tt tt))

pub lines_have_ids : (texts : List (List ℕ)) → AllByRecursion HasId (map map_line_of texts)
lines_have_ids [] = tt
lines_have_ids (text ∷ texts) = (line_has_id text, lines_have_ids texts)
