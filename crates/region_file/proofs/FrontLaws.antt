-- What is read at the front of bytes is what was written there, and what was written is read again.
use Rattle.plan_base.proofs.Common.{◌≡◌, ℕ, zero, suc, ℤ, ◌+◌, ◌*◌, ◌/◌, ◌%◌, ◌^◌, ◌<◌, ◌≤◌, true, cond, ltb, List, [], ◌∷◌, ◌++◌, length, take, drop, Some, None, refl, sym, ap, ap₂, subst, ◌∙◌, append_assoc, length-append, arith, nat_lt, nat_le, unsigned_abs, pos, negsuc, FitsSigned, w32, w64, cast_signed, cast_unsigned, to_be_bytes, and_parts, ltb-true, lt-ltb, le-leb, leb-true, to_z-of_z, none-some, same_Some, cond_some, option_and_then_some, take_at, drop_at, take-append-drop, length-take}
use Rattle.std.proofs.Math.Facts.{Fits-lt-pow, Fits-of_z}
use Rattle.file_records.specs.{number_front, signed_bytes, signed_front}
use Rattle.file_records.proofs.{Steps.and_then, Steps.mapped, NumberLaws.IsBytes, NumberLaws.IsBytes-drop, NumberLaws.Takes, NumberLaws.Takes-then, NumberLaws.wide32, NumberLaws.wide64, NumberLaws.number_takes, NumberLaws.number_again, NumberLaws.signed_takes, NumberLaws.signed_again}
use Rattle.plain_texts.specs.{is_name, IsId}
use Rattle.plan_base.specs.{mode_numbered, number_of_mode, Mode, Foot, Bike, Car, Place, place_of}
use Rattle.plan_base.proofs.PlaceAgain.{place_again}
use Rattle.region_file.specs.{word_bytes, counted_bytes, place_bytes, set_bytes, byte_front, counted_front, mode_front, name_front, place_front, id_front, set_front}
use Rattle.region_file.proofs.KindLaws.{place_of_takes, size_below}

pub word_takes : (bytes : List ℕ) (x : ℕ × List ℕ) → IsBytes bytes → number_front w32 bytes ≡ Some x → Takes bytes (word_bytes x.0) x.1 × (x.0 < 2 ^ 32)
word_takes bytes x fits e = number_takes w32 (2 ^ 32) wide32 bytes x fits e

pub word_again : (n : ℕ) (rest : List ℕ) → n < 2 ^ 32 → number_front w32 (word_bytes n ++ rest) ≡ Some (n, rest)
word_again n rest lt = number_again w32 (2 ^ 32) wide32 n rest lt

-- ---- a byte

pub byte_takes : (below : ℕ) (bytes : List ℕ) (x : ℕ × List ℕ) → IsBytes bytes → byte_front below bytes ≡ Some x → Takes bytes (x.0 ∷ []) x.1 × (x.0 < below)
byte_takes below [] x fits e = absurd (none-some x e)
byte_takes below (b ∷ bytes) x fits e =
    let g = cond_some (ltb b below) (b, bytes) x e in
    subst (λ (y : ℕ × List ℕ). Takes (b ∷ bytes) (y.0 ∷ []) y.1 × (y.0 < below)) g.1 (record { parts = refl; rest_fits = λ i. fits (suc i) }, ltb-true _ _ g.0)

pub byte_again : (below b : ℕ) (rest : List ℕ) → b < below → byte_front below (b ∷ rest) ≡ Some (b, rest)
byte_again below b rest lt = ap (λ t. cond t (Some (b, rest)) None) (lt-ltb b below lt)

-- ---- a mode

pub mode_takes : (bytes : List ℕ) (x : Mode × List ℕ) → IsBytes bytes → mode_front bytes ≡ Some x → Takes bytes (number_of_mode x.0 ∷ []) x.1
mode_takes [] x fits e = absurd (none-some x e)
mode_takes (number ∷ bytes) x fits e =
    let found = mapped (λ (mode : Mode). (mode, bytes)) (mode_numbered number) x e in
    let taken : Takes (number ∷ bytes) (number_of_mode found.0 ∷ []) bytes =
    record { parts = ap (λ n. n ∷ bytes) (number_of number found.0 found.1); rest_fits = λ i. fits (suc i) } in
    subst (λ (y : Mode × List ℕ). Takes (number ∷ bytes) (number_of_mode y.0 ∷ []) y.1) found.2 taken
  where
    number_of : (number : ℕ) (mode : Mode) → mode_numbered number ≡ Some mode → number ≡ number_of_mode mode
    number_of zero mode is = ap number_of_mode (same_Some Foot mode is)
    number_of (suc zero) mode is = ap number_of_mode (same_Some Bike mode is)
    number_of (suc (suc zero)) mode is = ap number_of_mode (same_Some Car mode is)
    number_of (suc (suc (suc n))) mode is = absurd (none-some mode is)

pub mode_again : (mode : Mode) (rest : List ℕ) → mode_front (number_of_mode mode ∷ rest) ≡ Some (mode, rest)
mode_again Foot rest = refl
mode_again Bike rest = refl
mode_again Car rest = refl

-- ---- bytes behind their number, and names

pub counted_takes : (bytes : List ℕ) (x : List ℕ × List ℕ) → IsBytes bytes → counted_front bytes ≡ Some x → Takes bytes (counted_bytes x.0) x.1 × (length x.0 < 2 ^ 32)
unfolding counted_front
counted_takes bytes x fits e =
    option_and_then_some _ (number_front w32 bytes) x e (λ count is_count e.
    let t = word_takes bytes count fits is_count in
    let g = cond_some (nat_le count.0 (length count.1)) (take count.0 count.1, drop count.0 count.1) x e in
    let long : count.0 ≤ length count.1 = leb-true _ _ g.0 in
    let len : length (take count.0 count.1) ≡ count.0 = omega (arith, length-take count.0 count.1) in
    let front : Takes bytes (word_bytes (length (take count.0 count.1))) count.1 = rw len t.0 in
    let behind : Takes count.1 (take count.0 count.1) (drop count.0 count.1) = record { parts = sym (take-append-drop count.0 count.1); rest_fits = IsBytes-drop count.0 count.1 t.0.rest_fits } in
    subst (λ (y : List ℕ × List ℕ). Takes bytes (counted_bytes y.0) y.1 × (length y.0 < 2 ^ 32)) g.1
    (Takes-then bytes (word_bytes (length (take count.0 count.1))) count.1 (take count.0 count.1) (drop count.0 count.1) front behind, omega (arith, len, t.1)))

pub counted_again : (mine rest : List ℕ) → length mine < 2 ^ 32 → counted_front (counted_bytes mine ++ rest) ≡ Some (mine, rest)
unfolding counted_front
counted_again mine rest few =
    let long : nat_le (length mine) (length (mine ++ rest)) ≡ true = le-leb _ _ (omega (arith, length-append mine rest)) in
    ap counted_front (append_assoc (word_bytes (length mine)) mine rest)
    ∙ and_then (number_front w32 (word_bytes (length mine) ++ (mine ++ rest))) _ (length mine, mine ++ rest) (Some (mine, rest)) (word_again (length mine) (mine ++ rest) few)
    (ap (λ t. cond t (Some (take (length mine) (mine ++ rest), drop (length mine) (mine ++ rest))) None) long
    ∙ ap₂ (λ a b. Some (a, b)) (take_at mine rest (length mine) refl) (drop_at mine rest (length mine) refl))

pub name_takes : (bytes : List ℕ) (x : List ℕ × List ℕ) → IsBytes bytes → name_front bytes ≡ Some x → Takes bytes (counted_bytes x.0) x.1 × (is_name x.0 ≡ true)
unfolding name_front
name_takes bytes x fits e =
    option_and_then_some _ (counted_front bytes) x e (λ name is e.
    let g = cond_some (is_name name.0) (name.0, name.1) x e in
    let t = counted_takes bytes name fits is in
    subst (λ (y : List ℕ × List ℕ). Takes bytes (counted_bytes y.0) y.1 × (is_name y.0 ≡ true)) g.1 (t.0, g.0))

pub name_short : (name : List ℕ) → is_name name ≡ true → length name < 2 ^ 32
unfolding is_name
name_short name h = ltb-true _ _ (and_parts _ _ (and_parts _ _ h).1).0

pub name_again : (name rest : List ℕ) → is_name name ≡ true → name_front (counted_bytes name ++ rest) ≡ Some (name, rest)
unfolding name_front
name_again name rest h =
    and_then (counted_front (counted_bytes name ++ rest)) _ (name, rest) (Some (name, rest)) (counted_again name rest (name_short name h)) (ap (λ t. cond t (Some (name, rest)) None) h)

-- ---- places and ids

pub place_takes : (bytes : List ℕ) (x : Place × List ℕ) → IsBytes bytes → place_front bytes ≡ Some x → Takes bytes (place_bytes x.0) x.1
unfolding place_front
place_takes bytes x fits e =
    option_and_then_some _ (signed_front w32 bytes) x e (λ lat is_lat e.
    option_and_then_some _ (signed_front w32 lat.1) x e (λ lon is_lon e.
    option_and_then_some _ (place_of lat.0 lon.0) x e (λ place is_place e.
    let same = place_of_takes lat.0 lon.0 place is_place in
    let t0 = signed_takes w32 (2 ^ 32) wide32 bytes lat fits is_lat in
    let t1 = signed_takes w32 (2 ^ 32) wide32 lat.1 lon t0.rest_fits is_lon in
    let both = Takes-then bytes (signed_bytes w32 lat.0) lat.1 (signed_bytes w32 lon.0) lon.1 t0 t1 in
    let is : Takes bytes (place_bytes place) lon.1 = subst (λ z. Takes bytes (signed_bytes w32 z ++ signed_bytes w32 place.lon) lon.1) same.0 (subst (λ z. Takes bytes (signed_bytes w32 lat.0 ++ signed_bytes w32 z) lon.1) same.1 both) in
    subst (λ (y : Place × List ℕ). Takes bytes (place_bytes y.0) y.1) (same_Some (place, lon.1) x e) is)))

-- a number of such a size fits, and so does its two's complement
small32 : (z : ℤ) → unsigned_abs z < 2 * 10 ^ 9 → FitsSigned w32 z
small32 (pos n) h = record { sfits = omega (arith, h) }
small32 (negsuc n) h = record { sfits = omega (arith, h) }

small64 : (z : ℤ) → IsId z → FitsSigned w64 z
small64 (pos n) h = record { sfits = omega (arith, h) }
small64 (negsuc n) h = record { sfits = omega (arith, h) }

fits32 : (z : ℤ) → unsigned_abs z < 2 * 10 ^ 9 → FitsSigned w32 z × (cast_unsigned w32 z < 2 ^ 32)
fits32 z h = (let f = small32 z h in (f, Fits-lt-pow (Fits-of_z f)))

-- and so do a latitude and a longitude
pub lat_fits : (place : Place) → FitsSigned w32 place.lat × (cast_unsigned w32 place.lat < 2 ^ 32)
lat_fits place = (let range = place.in_range in fits32 place.lat (size_below place.lat 900000000 range.south range.north (omega arith)))

pub lon_fits : (place : Place) → FitsSigned w32 place.lon × (cast_unsigned w32 place.lon < 2 ^ 32)
lon_fits place = (let range = place.in_range in fits32 place.lon (size_below place.lon 1800000000 range.west range.east (omega arith)))

-- as the code has them
pub lat_again : (place : Place) → cast_signed w64 (cast_unsigned w64 place.lat) ≡ place.lat
lat_again place = (let range = place.in_range in let size = size_below place.lat 900000000 range.south range.north (omega arith) in to_z-of_z w64 place.lat (small64 place.lat (omega (arith, size))))

pub lon_again : (place : Place) → cast_signed w64 (cast_unsigned w64 place.lon) ≡ place.lon
lon_again place = (let range = place.in_range in let size = size_below place.lon 1800000000 range.west range.east (omega arith) in to_z-of_z w64 place.lon (small64 place.lon (omega (arith, size))))

pub place_is_read : (place : Place) (rest : List ℕ) → place_front (place_bytes place ++ rest) ≡ Some (place, rest)
unfolding place_front
place_is_read place rest =
    let lat = lat_fits place in
    let lon = lon_fits place in
    let first = signed_bytes w32 place.lat in
    let second = signed_bytes w32 place.lon in
    ap place_front (append_assoc first second rest)
    ∙ and_then (signed_front w32 (first ++ (second ++ rest))) _ (place.lat, second ++ rest) (Some (place, rest)) (signed_again w32 (2 ^ 32) wide32 place.lat (second ++ rest) lat.0 lat.1)
    (and_then (signed_front w32 (second ++ rest)) _ (place.lon, rest) (Some (place, rest)) (signed_again w32 (2 ^ 32) wide32 place.lon rest lon.0 lon.1)
    (and_then (place_of place.lat place.lon) _ place (Some (place, rest)) (place_again place) refl))

pub id_takes : (bytes : List ℕ) (x : ℤ × List ℕ) → IsBytes bytes → id_front bytes ≡ Some x → Takes bytes (signed_bytes w64 x.0) x.1 × IsId x.0
unfolding id_front
id_takes bytes x fits e =
    option_and_then_some _ (signed_front w64 bytes) x e (λ id is e.
    let g = cond_some (nat_lt (unsigned_abs id.0) (10 ^ 18)) (id.0, id.1) x e in
    let t = signed_takes w64 (2 ^ 64) wide64 bytes id fits is in
    subst (λ (y : ℤ × List ℕ). Takes bytes (signed_bytes w64 y.0) y.1 × IsId y.0) g.1 (t, ltb-true _ _ g.0))

fits64 : (z : ℤ) → IsId z → FitsSigned w64 z × (cast_unsigned w64 z < 2 ^ 64)
fits64 z h = (let f = small64 z h in (f, Fits-lt-pow (Fits-of_z f)))

pub id_again : (z : ℤ) (rest : List ℕ) → IsId z → id_front (signed_bytes w64 z ++ rest) ≡ Some (z, rest)
unfolding id_front
id_again z rest h =
    let f = fits64 z h in
    and_then (signed_front w64 (signed_bytes w64 z ++ rest)) _ (z, rest) (Some (z, rest)) (signed_again w64 (2 ^ 64) wide64 z rest f.0 f.1) (ap (λ t. cond t (Some (z, rest)) None) (lt-ltb _ _ h))

-- ---- sets of days

pub set_takes : (bytes : List ℕ) (x : ℕ × List ℕ) → IsBytes bytes → set_front bytes ≡ Some x → Takes bytes (set_bytes x.0) x.1 × (0 < x.0) × (x.0 < 2 ^ 128)
unfolding set_front
set_takes bytes x fits e =
    option_and_then_some _ (number_front w64 bytes) x e (λ high is_high e.
    option_and_then_some _ (number_front w64 high.1) x e (λ low is_low e.
    let t0 = number_takes w64 (2 ^ 64) wide64 bytes high fits is_high in
    let t1 = number_takes w64 (2 ^ 64) wide64 high.1 low t0.0.rest_fits is_low in
    let set = high.0 * 2 ^ 64 + low.0 in
    let g = cond_some (nat_lt 0 set) (set, low.1) x e in
    let upper : set / 2 ^ 64 ≡ high.0 = omega (arith, t1.1) in
    let lower : set % 2 ^ 64 ≡ low.0 = omega (arith, t1.1) in
    let both = Takes-then bytes (to_be_bytes w64 high.0) high.1 (to_be_bytes w64 low.0) low.1 t0.0 t1.0 in
    let is : Takes bytes (set_bytes set) low.1 = subst (λ (t : List ℕ). Takes bytes t low.1) (ap₂ (λ a b. to_be_bytes w64 a ++ to_be_bytes w64 b) (sym upper) (sym lower)) both in
    subst (λ (y : ℕ × List ℕ). Takes bytes (set_bytes y.0) y.1 × (0 < y.0) × (y.0 < 2 ^ 128)) g.1 (is, ltb-true _ _ g.0, omega (arith, t0.1, t1.1))))

pub set_again : (n : ℕ) (rest : List ℕ) → 0 < n → n < 2 ^ 128 → set_front (set_bytes n ++ rest) ≡ Some (n, rest)
unfolding set_front
set_again n rest some few =
    let high = to_be_bytes w64 (n / 2 ^ 64) in
    let low = to_be_bytes w64 (n % 2 ^ 64) in
    let whole : n / 2 ^ 64 * 2 ^ 64 + n % 2 ^ 64 ≡ n = omega arith in
    ap set_front (append_assoc high low rest)
    ∙ and_then (number_front w64 (high ++ (low ++ rest))) _ (n / 2 ^ 64, low ++ rest) (Some (n, rest)) (number_again w64 (2 ^ 64) wide64 (n / 2 ^ 64) (low ++ rest) (omega (arith, few)))
    (and_then (number_front w64 (low ++ rest)) _ (n % 2 ^ 64, rest) (Some (n, rest)) (number_again w64 (2 ^ 64) wide64 (n % 2 ^ 64) rest (omega arith))
    (ap (λ m. cond (nat_lt 0 m) (Some (m, rest)) None) whole ∙ ap (λ t. cond t (Some (n, rest)) None) (lt-ltb 0 n some)))
