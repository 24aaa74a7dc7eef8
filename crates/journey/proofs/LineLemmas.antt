-- A query line holds no line feed.
use Rattle.plan_base.proofs.Common.{◌≡◌, ℕ, ℤ, ◌+◌, ◌^◌, Bool, true, false, ◌&&◌, ◌==◌, Option, Some, None, Ok, List, [], ◌∷◌, length, get_or, take, drop, cond, refl, sym, ap, subst, arith, All, bytes_eq, codes, position, option_map, nat_lt, nat_le, nat_eq, pos, neg_ℤ, list_all, and_parts, nat_tests, take-append-drop, drop_more, All-nil, All-cons, All-append, All-push, All-weaker, position-Some, AllPass-from_list_all, bytes_eq-Decides, none-some, same_Some, option_and_then_some, get_or_from_slice_get, slice_get_within}
use Rattle.std.specs.Char.{is_ascii_digit}
use Rattle.plan_base.specs.{Mode, Place, road_names, mode_named}
use Rattle.plain_texts.specs.{digit_of, fixed_step, fixed_at, is_feed, IsLine, is_name, id_at}
use Rattle.plain_texts.proofs.{Digits.fold_takes, Digits.digit_takes, Signed.signed_takes, Spaced.word_is_line, Spaced.signed_is_word, Spaced.name_is_word}
use Rattle.geo_length.specs.{are_digits, is_point, whole_of, part_of, units_at, units_of, size_of, degrees_of}
use Rattle.service_days.specs.{date_at, DaysMeaning.DaysMeaning}
use Rattle.mode_expression.specs.Form.{Form}
use Rattle.mode_network.specs.{Endpoint, Near, NearIn, IsNetwork, declared.endpoints.Endpoint.TheVariants.Road, declared.endpoints.Endpoint.TheVariants.Stop, NetworkLists.NetworkLists}
use Rattle.journey.specs.{Fields, Shape, at_byte, place_at, near_in_at, endpoint_of, fields_of, is_filled, shape_of_fields, shape_of, part_at, millis_at, time_at, departs_on, IsKnown, IsQuery}
use Rattle.journey.proofs.ExpressionLines.{spelled_is_line}

mapped : {A B : Type 0} (f : A → B) (o : Option A) (y : B) → option_map f o ≡ Some y → (x : A) × (o ≡ Some x) × (f x ≡ y)
mapped f None y e = absurd (none-some y e)
mapped f (Some x) y e = (x, refl, same_Some (f x) y e)

guarded : {A : Type 0} (b : Bool) (o : Option A) (y : A) → cond b o None ≡ Some y → (b ≡ true) × (o ≡ Some y)
guarded true o y e = (refl, e)
guarded false o y e = absurd (none-some y e)

line_nil : IsLine []
line_nil = All-nil (λ b. is_feed b ≡ false)

line_more : (b : ℕ) (line : List ℕ) → is_feed b ≡ false → IsLine line → IsLine (b ∷ line)
line_more b line plain rest = All-cons (λ b. is_feed b ≡ false) b line plain rest

-- a byte that is another is no line feed
other_byte : (b byte : ℕ) → (b == byte) ≡ true → is_feed byte ≡ false → is_feed b ≡ false
other_byte b byte is plain = grind (arith, nat_tests)

-- a text that is cut at a byte
cut_line : (byte : ℕ) (text : List ℕ) (k : ℕ) → is_feed byte ≡ false → position (λ b. b == byte) text ≡ Some k → IsLine (take k text) → IsLine (drop (k + 1) text) → IsLine text
cut_line byte text k plain is front back =
    let at = position-Some (λ b. b == byte) text k 0 is in
    let here = other_byte (get_or text k 0) byte at.1 plain in
    subst IsLine (take-append-drop k text)
    (All-append (λ b. is_feed b ≡ false) (take k text) (drop k text) front (subst IsLine (sym (drop_more text k 0 at.0)) (line_more (get_or text k 0) (drop (k + 1) text) here back)))

at_byte_line : (byte : ℕ) (text : List ℕ) (parts : List ℕ × List ℕ) → is_feed byte ≡ false → at_byte byte text ≡ Some parts → IsLine parts.0 → IsLine parts.1 → IsLine text
at_byte_line byte text parts plain e front back =
    let cut = mapped (λ k. (take k text, drop (k + 1) text)) (position (λ b. b == byte) text) parts e in
    cut_line byte text cut.0 plain cut.1 (subst IsLine (ap (λ (p : List ℕ × List ℕ). p.0) (sym cut.2)) front) (subst IsLine (ap (λ (p : List ℕ × List ℕ). p.1) (sym cut.2)) back)

-- digits
digit_plain : (b d : ℕ) → digit_of b ≡ Some d → is_feed b ≡ false
digit_plain b d e = let byte = digit_takes b d e in grind (arith, nat_tests, byte.0)

fixed_line : (text : List ℕ) (n : ℕ) → fixed_at text ≡ Some n → IsLine text
unfolding fixed_at
fixed_line text n e =
    fold_takes fixed_step (λ v front. IsLine front)
    (λ v b w front e h. option_and_then_some _ (digit_of b) w e (λ d is _. All-push (λ b. is_feed b ≡ false) front b h (digit_plain b d is)))
    text [] 0 n line_nil e

id_line : (text : List ℕ) (id : ℤ) → id_at text ≡ Some id → IsLine text
id_line text id e =
    let takes = signed_takes text (10 ^ 18) id (omega arith) e in
    subst IsLine (sym takes.1) (word_is_line _ (signed_is_word id (omega (arith, takes.0))))

-- degrees
ascii_plain : (b : ℕ) → is_ascii_digit b ≡ true → is_feed b ≡ false
ascii_plain b e = grind (arith, nat_tests)

digits_line : (most : ℕ) (text : List ℕ) → are_digits most text ≡ true → IsLine text
digits_line most text e =
    let some = and_parts (nat_lt 0 (length text)) (nat_le (length text) most && list_all is_ascii_digit text) e in
    let few = and_parts (nat_le (length text) most) (list_all is_ascii_digit text) some.1 in
    All-weaker (λ b. is_ascii_digit b ≡ true) (λ b. is_feed b ≡ false) ascii_plain text (AllPass-from_list_all is_ascii_digit text few.1)

whole_line : (text : List ℕ) (n : ℕ) → whole_of text ≡ Some n → IsLine text
whole_line text n e = digits_line 3 text (guarded (are_digits 3 text) _ n e).0

part_line : (text : List ℕ) (n : ℕ) → part_of text ≡ Some n → IsLine text
part_line text n e = digits_line 18 text (guarded (are_digits 18 text) _ n e).0

units_line : (text : List ℕ) (n : ℕ) → units_of text ≡ Some n → IsLine text
units_line text n e = by_point (position is_point text) refl e
  where
    by_point : (point : Option ℕ) → position is_point text ≡ point → units_at point text ≡ Some n → IsLine text
    by_point None is e = whole_line text n e
    by_point (Some k) is e = option_and_then_some _ (whole_of (take k text)) n e (λ whole front e.
        let back = mapped (λ part. whole + part) (part_of (drop (k + 1) text)) n e in
        cut_line 46 text k refl is (whole_line (take k text) whole front) (part_line (drop (k + 1) text) back.0 back.1))

size_line : (most : ℕ) (text : List ℕ) (n : ℕ) → size_of most text ≡ Some n → IsLine text
size_line most text n e = option_and_then_some _ (units_of text) n e (λ units is _. units_line text units is)

degrees_line : (most : ℕ) (text : List ℕ) (z : ℤ) → degrees_of most text ≡ Some z → IsLine text
unfolding degrees_of
degrees_line most [] z e = absurd (none-some z e)
degrees_line most (b ∷ bs) z e = by_sign (b == 45) refl e
  where
    by_sign : (sign : Bool) → (b == 45) ≡ sign → cond sign (option_map (λ n. neg_ℤ (pos n)) (size_of most bs)) (option_map pos (size_of most (b ∷ bs))) ≡ Some z → IsLine (b ∷ bs)
    by_sign true is e =
        let size = mapped (λ n. neg_ℤ (pos n)) (size_of most bs) z e in
        line_more b bs (other_byte b 45 is refl) (size_line most bs size.0 size.1)
    by_sign false is e =
        let size = mapped pos (size_of most (b ∷ bs)) z e in
        size_line most (b ∷ bs) size.0 size.1

place_line : (text : List ℕ) (place : Place) → place_at text ≡ Some place → IsLine text
place_line text place e =
    option_and_then_some _ (at_byte 44 text) place e (λ parts cut e.
    option_and_then_some _ (degrees_of 90 parts.0) place e (λ lat front e.
    option_and_then_some _ (degrees_of 180 parts.1) place e (λ lon back _.
    at_byte_line 44 text parts refl cut (degrees_line 90 parts.0 lat front) (degrees_line 180 parts.1 lon back))))

-- the name of a mode, and a place behind it
road_lines : All IsLine road_names
road_lines =
    All-cons IsLine (codes "foot") (codes "bike" ∷ codes "car" ∷ []) (line_more 102 (111 ∷ 111 ∷ 116 ∷ []) refl (line_more 111 (111 ∷ 116 ∷ []) refl (line_more 111 (116 ∷ []) refl (line_more 116 [] refl line_nil))))
    (All-cons IsLine (codes "bike") (codes "car" ∷ []) (line_more 98 (105 ∷ 107 ∷ 101 ∷ []) refl (line_more 105 (107 ∷ 101 ∷ []) refl (line_more 107 (101 ∷ []) refl (line_more 101 [] refl line_nil))))
    (All-cons IsLine (codes "car") [] (line_more 99 (97 ∷ 114 ∷ []) refl (line_more 97 (114 ∷ []) refl (line_more 114 [] refl line_nil))) (All-nil IsLine)))

mode_line : (name : List ℕ) (mode : Mode) → mode_named name ≡ Some mode → IsLine name
mode_line name mode e = option_and_then_some _ (position (λ known. bytes_eq known name) road_names) mode e (λ k is _.
    let at = position-Some (λ known. bytes_eq known name) road_names k [] is in
    subst IsLine ((bytes_eq-Decides (get_or road_names k []) name).0 at.1) (road_lines k [] at.0))

near_in_line : (field : List ℕ) (endpoint : Endpoint) → near_in_at field ≡ Some endpoint → IsLine field
near_in_line field endpoint e =
    option_and_then_some _ (at_byte 64 field) endpoint e (λ parts cut e.
    option_and_then_some _ (mode_named parts.0) endpoint e (λ mode named e.
    let place = mapped (NearIn mode) (place_at parts.1) endpoint e in
    at_byte_line 64 field parts refl cut (mode_line parts.0 mode named) (place_line parts.1 place.0 place.1)))

-- an endpoint, where the name of a stop is a name
abbrev pub IsNamed : Endpoint → Type 0
IsNamed endpoint = (name : List ℕ) → endpoint ≡ Stop name → is_name name ≡ true

endpoint_line : (field : List ℕ) (endpoint : Endpoint) → endpoint_of field ≡ Some endpoint → IsNamed endpoint → IsLine field
endpoint_line [] endpoint e named = absurd (none-some endpoint e)
endpoint_line (mark ∷ name) endpoint e named = by_mark (mark == 110) ((mark == 115) && nat_lt 0 (length name)) (mark == 64) refl refl refl e
  where
    by_mark : (road stop near : Bool) → (mark == 110) ≡ road → ((mark == 115) && nat_lt 0 (length name)) ≡ stop → (mark == 64) ≡ near
        → cond road (option_map Road (id_at name)) (cond stop (Some (Stop name)) (cond near (option_map Near (place_at name)) (near_in_at (mark ∷ name)))) ≡ Some endpoint → IsLine (mark ∷ name)
    by_mark true stop near is _ _ e =
        let id = mapped Road (id_at name) endpoint e in
        line_more mark name (other_byte mark 110 is refl) (id_line name id.0 id.1)
    by_mark false true near _ is _ e =
        let here = and_parts (mark == 115) (nat_lt 0 (length name)) is in
        let same : endpoint ≡ Stop name = sym (same_Some (Stop name) endpoint e) in
        line_more mark name (other_byte mark 115 here.0 refl) (word_is_line name (name_is_word name (named name same)))
    by_mark false false true _ _ is e =
        let place = mapped Near (place_at name) endpoint e in
        line_more mark name (other_byte mark 64 is refl) (place_line name place.0 place.1)
    by_mark false false false _ _ _ e = near_in_line (mark ∷ name) endpoint e

-- the departure
date_line : (text : List ℕ) (date : ℕ) → date_at text ≡ Some date → IsLine text
unfolding date_at
date_line text date e = option_and_then_some _ (fixed_at text) date (guarded (nat_eq (length text) 8) _ date e).1 (λ n is _. fixed_line text n is)

part_plain : (below tens ones : ℕ) (rest : List ℕ) (n : ℕ) → part_at below tens ones ≡ Some n → IsLine rest → IsLine (tens ∷ ones ∷ rest)
part_plain below tens ones rest n e h =
    option_and_then_some _ (fixed_at (tens ∷ ones ∷ [])) n e (λ part is _. All-append (λ b. is_feed b ≡ false) (tens ∷ ones ∷ []) rest (fixed_line (tens ∷ ones ∷ []) part is) h)

millis_line : (text : List ℕ) (ms : ℕ) → millis_at text ≡ Some ms → IsLine text
millis_line [] ms e = line_nil
millis_line (point ∷ digits) ms e =
    let kept = guarded ((point == 46) && nat_eq (length digits) 3) (fixed_at digits) ms e in
    let mark = and_parts (point == 46) (nat_eq (length digits) 3) kept.0 in
    line_more point digits (other_byte point 46 mark.0 refl) (fixed_line digits ms kept.1)

time_line : (text : List ℕ) (ms : ℕ) → time_at text ≡ Some ms → IsLine text
time_line (a ∷ b ∷ c ∷ d ∷ e ∷ f ∷ g ∷ h ∷ rest) ms is =
    let kept = guarded ((c == 58) && (f == 58)) _ ms is in
    let colons = and_parts (c == 58) (f == 58) kept.0 in
    option_and_then_some _ (part_at 24 a b) ms kept.1 (λ hours first is.
    option_and_then_some _ (part_at 60 d e) ms is (λ minutes second is.
    option_and_then_some _ (part_at 60 g h) ms is (λ seconds third is.
    let millis = mapped _ (millis_at rest) ms is in
    part_plain 24 a b (c ∷ d ∷ e ∷ f ∷ g ∷ h ∷ rest) hours first (line_more c (d ∷ e ∷ f ∷ g ∷ h ∷ rest) (other_byte c 58 colons.0 refl)
    (part_plain 60 d e (f ∷ g ∷ h ∷ rest) minutes second (line_more f (g ∷ h ∷ rest) (other_byte f 58 colons.1 refl)
    (part_plain 60 g h rest seconds third (millis_line rest millis.0 millis.1))))))))
time_line _ ms is = absurd (none-some ms is)

departed : (days : DaysMeaning) (date time : Option ℕ) (depart : ℕ) → departs_on days date time ≡ Ok depart → ((d : ℕ) × (date ≡ Some d)) × ((t : ℕ) × (time ≡ Some t))
departed days (Some d) (Some t) depart e = ((d, refl), (t, refl))
departed days (Some d) None depart e = cc
departed days None time depart e = cc

-- the fields of a line
abbrev AreLines : Fields → Type 0
AreLines f = IsLine f.from × IsLine f.to × IsLine f.date × IsLine f.time × IsLine f.expr

fields_line : (line : List ℕ) (fields : Fields) → fields_of line ≡ Some fields → AreLines fields → IsLine line
fields_line line fields e are =
    option_and_then_some _ (at_byte 32 line) fields e (λ from first e.
    option_and_then_some _ (at_byte 32 from.1) fields e (λ to second e.
    option_and_then_some _ (at_byte 32 to.1) fields e (λ date third e.
    let time = mapped _ (at_byte 32 date.1) fields e in
    let all = subst AreLines (sym time.2) are in
    at_byte_line 32 line from refl first all.0
    (at_byte_line 32 from.1 to refl second all.1
    (at_byte_line 32 to.1 date refl third all.2 (at_byte_line 32 date.1 time.0 refl time.1 all.3 all.4))))))

record IsPlain (shape : Shape) : Type 0 where
  from : IsNamed shape.from
  to : IsNamed shape.to
  date : IsLine shape.date
  time : IsLine shape.time
  expr : IsLine shape.expr

shape_line : (line : List ℕ) (shape : Shape) → shape_of line ≡ Some shape → IsPlain shape → IsLine line
shape_line line shape e plain = option_and_then_some shape_of_fields (fields_of line) shape e (λ fields are e.
    option_and_then_some _ (endpoint_of fields.from) shape (guarded (is_filled fields.date && is_filled fields.time) _ shape e).1 (λ from first e.
    let to = mapped _ (endpoint_of fields.to) shape e in
    let all = subst IsPlain (sym to.2) plain in
    fields_line line fields are (endpoint_line fields.from from first all.from, endpoint_line fields.to to.0 to.1 all.to, all.date, all.time, all.expr)))

-- an endpoint that the network has is named, since the name of each of its stops is a name
known_is_named : (n : NetworkLists) → IsNetwork n → (endpoint : Endpoint) → IsKnown n endpoint → IsNamed endpoint
known_is_named n network endpoint known name is =
    let held = (subst (IsKnown n) is known).1 in
    subst (λ x. is_name x ≡ true) (get_or_from_slice_get n.stop_names held.0 name [] held.1) (network.names_are held.0 [] (slice_get_within n.stop_names held.0 name held.1))

-- a query stands on one line
pub query_is_line : (n : NetworkLists) → IsNetwork n → (line : List ℕ) (from to : Endpoint) (depart : ℕ) (form : Form) → IsQuery n line from to depart form → IsLine line
query_is_line n network line from to depart form query =
    let shape = query.shape in
    let departs = query.reaches.departs in
    let clock = departed n.days (date_at shape.date) (time_at shape.time) depart departs.departs in
    shape_line line shape departs.shape_is (record {
      from = known_is_named n network shape.from query.reaches.from_known;
      to = known_is_named n network shape.to query.reaches.to_known;
      date = date_line shape.date clock.0.0 clock.0.1;
      time = time_line shape.time clock.1.0 clock.1.1;
      expr = spelled_is_line shape.expr form query.expression.spells;
    })
