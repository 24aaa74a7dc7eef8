-- The collapsed automaton keeps the laws of automata, and of road letters. These are proofs, which a ghost field and ghost
-- members of its type cite; nothing is defined here that a contract means.
use Rattle.std.specs.Prelude.{◌≡◌, ◌≢◌, ℕ, zero, suc, ◌+◌, ◌-◌, ◌*◌, ◌/◌, ◌%◌, ◌^◌, ◌<◌, ◌≤◌, min, Bool, true, false, ◌==◌, nat_lt, ◌⊎◌, bit_and, IsBitSet, if◌then◌else◌, refl}
use Rattle.std.proofs.Common.{sym, ap, ◌∙◌, subst, inl, inr, lit<, arith}
use Rattle.std.specs.Int.{bit_at}
use Rattle.std.proofs.lemmas.Bool.Decides.{nat_tests}
use Rattle.std.proofs.lemmas.Nat.{pow_below, pow_pos, and_le_l}
use Rattle.std.proofs.lemmas.Nat.Bits.{bit_at_and, and_pow, bit_at-lt, bit_at-zero, bit_at-pow_same, bit_at-pow_other, bit_at_mask_inside, bit_at_mask_below, bit_at_above}
use Rattle.search_laws.specs.{IsLetter, IsLetterSet, letter_count, transit_letters, Move, LabelsMeaning, IsLawfulLabels, IsMove, HasMove, IsRoadLabels}
use Rattle.automaton.specs.Collapsed.{move_by, stay, other_move, collapsed, FitsCollapsed}

-- ---- bits
pub set_bit : (n c : ℕ) → IsBitSet n c → bit_at n c ≡ 1
set_bit n c set = by_value (bit_at n c) refl (bit_at-lt n c)
  where
    by_value : (b : ℕ) → bit_at n c ≡ b → b < 2 → b ≡ 1
    by_value zero is lt = absurd (set (and_pow n c ∙ ap (λ k. k * 2 ^ c) is ∙ omega arith))
    by_value (suc zero) is lt = refl
    by_value (suc (suc b)) is lt = absurd (omega arith)

pub bit_set : (n c : ℕ) → bit_at n c ≡ 1 → IsBitSet n c
bit_set n c is none =
    let e : bit_at n c * 2 ^ c ≡ 0 = sym (and_pow n c) ∙ none in
    let one : 1 * 2 ^ c ≡ 0 = ap (λ k. k * 2 ^ c) (sym is) ∙ e in
    let above = pow_pos c in
    omega arith

pub and_set : (a b c : ℕ) → IsBitSet (bit_and a b) c → IsBitSet a c × IsBitSet b c
and_set a b c set =
    let e = sym (bit_at_and a b c) ∙ set_bit (bit_and a b) c set in
    let x = bit_at-lt a c in
    let y = bit_at-lt b c in
    (bit_set a c (omega arith), bit_set b c (omega arith))

pub set_and : (a b c : ℕ) → IsBitSet a c → IsBitSet b c → IsBitSet (bit_and a b) c
set_and a b c p q = bit_set (bit_and a b) c (bit_at_and a b c ∙ ap (λ x. min x (bit_at b c)) (set_bit a c p) ∙ ap (λ y. min 1 y) (set_bit b c q))

pub no_bits : (c : ℕ) → IsBitSet 0 c → ⊥
no_bits c set = let e = set_bit 0 c set in let z = bit_at-zero c in omega arith

pub pow_set : (k c : ℕ) → IsBitSet (2 ^ k) c → c ≡ k
pow_set k c set = by_test (c == k) refl
  where
    by_test : (b : Bool) → (c == k) ≡ b → c ≡ k
    by_test true is = grind (arith, nat_tests)
    by_test false is =
        let other : c ≢ k = grind (arith, nat_tests) in
        let e = set_bit (2 ^ k) c set in let z = bit_at-pow_other k c other in absurd (omega arith)

pub set_pow : (c : ℕ) → IsBitSet (2 ^ c) c
set_pow c = bit_set (2 ^ c) c (bit_at-pow_same c)

-- the letters from tram on are those from 3 to 13
pub transit_set : (c : ℕ) → 3 ≤ c → IsLetter c → IsBitSet transit_letters c
transit_set c low high = bit_set transit_letters c (bit_at_mask_inside 3 letter_count c low high)

pub set_transit : (c : ℕ) → IsBitSet transit_letters c → 3 ≤ c
set_transit c set = by_test (nat_lt c 3) refl
  where
    by_test : (b : Bool) → nat_lt c 3 ≡ b → 3 ≤ c
    by_test true is = let lt : c < 3 = grind (arith, nat_tests) in let z = bit_at_mask_below 3 letter_count c lt in let e = set_bit transit_letters c set in absurd (omega arith)
    by_test false is = grind (arith, nat_tests)

-- a set of letters has letters alone
pub letter_below : (n c : ℕ) → IsLetterSet n → IsBitSet n c → IsLetter c
letter_below n c lt set = by_test (nat_lt c letter_count) refl
  where
    by_test : (b : Bool) → nat_lt c letter_count ≡ b → IsLetter c
    by_test true is = grind (arith, nat_tests)
    by_test false is = let le : letter_count ≤ c = grind (arith, nat_tests) in let z = bit_at_above n letter_count c lt le in let e = set_bit n c set in absurd (omega arith)

-- ---- moves
-- where a letter leads from an inner state: 1, 2 and 3 after a road letter, and 0 after a transit letter
abbrev pub code : ℕ → ℕ
code c = if nat_lt c 3 then c + 1 else 0

pub code_road : (c : ℕ) → c < 3 → code c ≡ c + 1
code_road c lt = let e : nat_lt c 3 ≡ true = grind (arith, nat_tests) in rw e

pub code_transit : (c : ℕ) → 3 ≤ c → code c ≡ 0
code_transit c le = let e : nat_lt c 3 ≡ false = grind (arith, nat_tests) in rw e

pub code_small : (c : ℕ) → code c < 4
code_small c = by_test (nat_lt c 3) refl
  where
    by_test : (b : Bool) → nat_lt c 3 ≡ b → code c < 4
    by_test true is = let lt : c < 3 = grind (arith, nat_tests) in omega (arith, code_road c lt)
    by_test false is = let le : 3 ≤ c = grind (arith, nat_tests) in omega (arith, code_transit c le)

abbrev by_kind : Bool → Bool → ℕ → Move → Move
by_kind zero_kind own_kind kind move =
    if zero_kind then record { letters = bit_and move.letters transit_letters; to = 4 * move.to }
    else (if own_kind then record { letters = 0; to = 4 * move.to + kind }
    else record { letters = bit_and move.letters (2 ^ (kind - 1)); to = 4 * move.to + kind })

-- a letter of a kind is one of the inner move, and not the one that was read last
pub record IsCollapsedLetter (own kind : ℕ) (move : Move) (c : ℕ) : Type 0 where
  pub inner : IsBitSet move.letters c
  pub kind_is : kind ≡ code c
  pub other : code c ≡ own → kind ≡ 0

road_given : (own kind : ℕ) (move : Move) (c : ℕ) → kind < 4 → IsBitSet move.letters c → c ≡ kind - 1 → kind ≢ 0 → kind ≢ own → IsCollapsedLetter own kind move c
road_given own kind move c small inner place some apart =
    let is : kind ≡ code c = omega (arith, code_road c (omega arith)) in
    record { inner = inner; kind_is = is; other = λ same. absurd (apart (is ∙ same)) }

pub given_out : (own kind : ℕ) (move : Move) (c : ℕ) → kind < 4 → IsBitSet (move_by own kind move).letters c → IsCollapsedLetter own kind move c
given_out own kind move c small set = by_test (kind == 0) (kind == own) refl refl set
  where
    by_test : (a b : Bool) → (kind == 0) ≡ a → (kind == own) ≡ b → IsBitSet (by_kind a b kind move).letters c → IsCollapsedLetter own kind move c
    by_test true b is other set =
        let both = and_set move.letters transit_letters c set in
        let zero_kind : kind ≡ 0 = grind (arith, nat_tests) in
        record { inner = both.0; kind_is = zero_kind ∙ sym (code_transit c (set_transit c both.1)); other = λ _. zero_kind }
    by_test false true is other set = absurd (no_bits c set)
    by_test false false is other set =
        let both = and_set move.letters (2 ^ (kind - 1)) c set in
        let place = pow_set (kind - 1) c both.1 in
        let some : kind ≢ 0 = grind (arith, nat_tests) in
        let apart : kind ≢ own = grind (arith, nat_tests) in
        road_given own kind move c small both.0 place some apart

pub given_in : (own : ℕ) (move : Move) (c : ℕ) → IsLetterSet move.letters → IsBitSet move.letters c → (code c ≡ own → code c ≡ 0)
    → IsBitSet (move_by own (code c) move).letters c
given_in own move c few set other = by_test (code c == 0) (code c == own) refl refl
  where
    by_test : (a b : Bool) → (code c == 0) ≡ a → (code c == own) ≡ b → IsBitSet (by_kind a b (code c) move).letters c
    by_test true b is same =
        let zero_kind : code c ≡ 0 = grind (arith, nat_tests) in
        set_and move.letters transit_letters c set (transit_set c (transit_of c zero_kind) (letter_below move.letters c few set))
      where
        transit_of : (c : ℕ) → code c ≡ 0 → 3 ≤ c
        transit_of c is = by_road (nat_lt c 3) refl
          where
            by_road : (r : Bool) → nat_lt c 3 ≡ r → 3 ≤ c
            by_road true road = let lt : c < 3 = grind (arith, nat_tests) in absurd (omega (arith, code_road c lt))
            by_road false road = grind (arith, nat_tests)
    by_test false true is same =
        let some : code c ≢ 0 = grind (arith, nat_tests) in
        let own_kind : code c ≡ own = grind (arith, nat_tests) in
        absurd (some (other own_kind))
    by_test false false is same =
        let some : code c ≢ 0 = grind (arith, nat_tests) in
        set_and move.letters (2 ^ (code c - 1)) c set (subst (λ k. IsBitSet (2 ^ k) c) (road_of c some) (set_pow c))
      where
        road_of : (c : ℕ) → code c ≢ 0 → c ≡ code c - 1
        road_of c some = by_road (nat_lt c 3) refl
          where
            by_road : (r : Bool) → nat_lt c 3 ≡ r → c ≡ code c - 1
            by_road true road = let lt : c < 3 = grind (arith, nat_tests) in omega (arith, code_road c lt)
            by_road false road = let le : 3 ≤ c = grind (arith, nat_tests) in absurd (some (code_transit c le))

pub move_to : (own kind : ℕ) (move : Move) → (move_by own kind move).to ≡ 4 * move.to + kind
move_to own kind move = by_test (kind == 0) (kind == own) refl
  where
    by_test : (a b : Bool) → (kind == 0) ≡ a → (by_kind a b kind move).to ≡ 4 * move.to + kind
    by_test true b is = let zero_kind : kind ≡ 0 = grind (arith, nat_tests) in omega arith
    by_test false true is = refl
    by_test false false is = refl

pub move_letters : (own kind : ℕ) (move : Move) → IsLetterSet move.letters → IsLetterSet (move_by own kind move).letters
move_letters own kind move few = by_test (kind == 0) (kind == own)
  where
    by_test : (a b : Bool) → IsLetterSet (by_kind a b kind move).letters
    by_test true b = omega (arith, and_le_l move.letters transit_letters)
    by_test false true = lit< tt
    by_test false false = omega (arith, and_le_l move.letters (2 ^ (kind - 1)))

-- ---- steps
module _ (l : LabelsMeaning) (lawful : IsLawfulLabels l) where
  -- the road letter that was read last
  pub record Stays (s c r : ℕ) : Type 0 where
    pub read : s % 4 ≢ 0
    pub letter : c ≡ s % 4 - 1
    pub same : r ≡ s

  -- another letter, by which the inner automaton moves
  pub record Goes (s c r : ℕ) : Type 0 where
    pub to : ℕ
    pub inner : HasMove l (s / 4) c to
    pub other : code c ≡ s % 4 → code c ≡ 0
    pub leads : r ≡ 4 * to + code c

  step_of_other : (s c r i : ℕ) → s < 4 * l.states → i < 4 * l.moves (s / 4) → IsBitSet (other_move l s i).letters c → (other_move l s i).to ≡ r → Goes s c r
  step_of_other s c r i lt place set leads =
      let move = l.move_at (s / 4) (i / 4) in
      let given = given_out (s % 4) (i % 4) move c (omega arith) set in
      record {
        to = move.to;
        inner = (i / 4, record { place = omega arith; letter = given.inner; to = refl });
        other = λ same. sym given.kind_is ∙ given.other same;
        leads = sym leads ∙ move_to (s % 4) (i % 4) move ∙ ap (λ k. 4 * move.to + k) given.kind_is;
      }

  pub step_out : (s c r : ℕ) → s < 4 * l.states → HasMove (collapsed l) s c r → Stays s c r ⊎ Goes s c r
  step_out s c r lt (i, move) = by_code (s % 4 == 0) refl move.place move.letter move.to
    where
      by_code : (b : Bool) → (s % 4 == 0) ≡ b → i < (if b then 4 * l.moves (s / 4) else 4 * l.moves (s / 4) + 1)
          → IsBitSet (if b then other_move l s i else (if i == 0 then stay s else other_move l s (i - 1))).letters c
          → (if b then other_move l s i else (if i == 0 then stay s else other_move l s (i - 1))).to ≡ r → Stays s c r ⊎ Goes s c r
      by_code true is place set to = inr (step_of_other s c r i lt place set to)
      by_code false is place set to = by_first (i == 0) refl set to
        where
          by_first : (f : Bool) → (i == 0) ≡ f → IsBitSet (if f then stay s else other_move l s (i - 1)).letters c
              → (if f then stay s else other_move l s (i - 1)).to ≡ r → Stays s c r ⊎ Goes s c r
          by_first true first set to =
              let some : s % 4 ≢ 0 = grind (arith, nat_tests) in
              inl (record { read = some; letter = pow_set (s % 4 - 1) c set; same = sym to })
          by_first false first set to =
              let some : i ≢ 0 = grind (arith, nat_tests) in
              inr (step_of_other s c r (i - 1) lt (omega arith) set to)

  place_of_other : (s c r : ℕ) → s < 4 * l.states → Goes s c r
      → (i : ℕ) × (i < 4 * l.moves (s / 4)) × IsBitSet (other_move l s i).letters c × ((other_move l s i).to ≡ r)
  place_of_other s c r lt goes = found goes.inner
    where
      small : code c < 4
      small = code_small c

      found : HasMove l (s / 4) c goes.to
          → (i : ℕ) × (i < 4 * l.moves (s / 4)) × IsBitSet (other_move l s i).letters c × ((other_move l s i).to ≡ r)
      found (j, move) =
          let i = 4 * j + code c in
          let place : i / 4 ≡ j = omega (arith, small) in
          let kind : i % 4 ≡ code c = omega (arith, small) in
          let inner = l.move_at (s / 4) j in
          let below = lawful.letters_in_range (s / 4) j (omega arith) move.place in
          let here : other_move l s i ≡ move_by (s % 4) (code c) inner =
          ap (λ k. move_by (s % 4) k (l.move_at (s / 4) (i / 4))) kind ∙ ap (λ k. move_by (s % 4) (code c) (l.move_at (s / 4) k)) place in (
            i,
            let p = move.place in omega (arith, small),
            subst (λ m. IsBitSet m.letters c) (sym here) (given_in (s % 4) inner c below move.letter goes.other),
            ap (λ m. m.to) here ∙ move_to (s % 4) (code c) inner ∙ ap (λ p. 4 * p + code c) move.to ∙ sym goes.leads,
          )

  move_in : (s c r : ℕ) → s < 4 * l.states → Goes s c r → HasMove (collapsed l) s c r
  move_in s c r lt goes = found (place_of_other s c r lt goes)
    where
      found : (i : ℕ) × (i < 4 * l.moves (s / 4)) × IsBitSet (other_move l s i).letters c × ((other_move l s i).to ≡ r) → HasMove (collapsed l) s c r
      found (i, place, set, to) = by_code (s % 4 == 0) refl
        where
          by_code : (b : Bool) → (s % 4 == 0) ≡ b → HasMove (collapsed l) s c r
          by_code true is = (
            i,
            record {
              place = subst (λ b. i < (if b then 4 * l.moves (s / 4) else 4 * l.moves (s / 4) + 1)) (sym is) place;
              letter = subst (λ b. IsBitSet (if b then other_move l s i else (if i == 0 then stay s else other_move l s (i - 1))).letters c) (sym is) set;
              to = subst (λ b. (if b then other_move l s i else (if i == 0 then stay s else other_move l s (i - 1))).to ≡ r) (sym is) to;
            },
          )
          by_code false is =
              let later : (i + 1 == 0) ≡ false = grind (arith, nat_tests) in
              let back : i + 1 - 1 ≡ i = omega arith in
              let same : (collapsed l).move_at s (i + 1) ≡ other_move l s i =
              ap (λ b. if b then other_move l s (i + 1) else (if i + 1 == 0 then stay s else other_move l s (i + 1 - 1))) is
              ∙ ap (λ b. if b then stay s else other_move l s (i + 1 - 1)) later ∙ ap (λ k. other_move l s k) back in (
                i + 1,
                record {
                  place = subst (λ b. i + 1 < (if b then 4 * l.moves (s / 4) else 4 * l.moves (s / 4) + 1)) (sym is) (omega arith);
                  letter = subst (λ m. IsBitSet m.letters c) (sym same) set;
                  to = ap (λ m. m.to) same ∙ to;
                },
              )

  stay_in : (s c : ℕ) → s < 4 * l.states → s % 4 ≢ 0 → c ≡ s % 4 - 1 → HasMove (collapsed l) s c s
  stay_in s c lt read letter =
      let is : (s % 4 == 0) ≡ false = grind (arith, nat_tests) in
      let same : (collapsed l).move_at s 0 ≡ stay s = ap (λ b. if b then other_move l s 0 else stay s) is in (
        0,
        record {
          place = subst (λ b. 0 < (if b then 4 * l.moves (s / 4) else 4 * l.moves (s / 4) + 1)) (sym is) (omega arith);
          letter = subst (λ m. IsBitSet m.letters c) (sym same) (subst (λ k. IsBitSet (2 ^ k) c) letter (set_pow c));
          to = ap (λ m. m.to) same;
        },
      )

  pub step_in : (s c r : ℕ) → s < 4 * l.states → Stays s c r ⊎ Goes s c r → HasMove (collapsed l) s c r
  step_in s c r lt (inl stays) = subst (λ k. HasMove (collapsed l) s c k) (sym stays.same) (stay_in s c lt stays.read stays.letter)
  step_in s c r lt (inr goes) = move_in s c r lt goes

  -- where a move leads
  other_in_range : (s i : ℕ) → s < 4 * l.states → i < 4 * l.moves (s / 4) → ((other_move l s i).to < 4 * l.states) × IsLetterSet (other_move l s i).letters
  other_in_range s i lt place =
      let inner = l.move_at (s / 4) (i / 4) in
      let q : s / 4 < l.states = omega arith in
      let j : i / 4 < l.moves (s / 4) = omega arith in
      (omega (arith, move_to (s % 4) (i % 4) inner, lawful.to_in_range (s / 4) (i / 4) q j), move_letters (s % 4) (i % 4) inner (lawful.letters_in_range (s / 4) (i / 4) q j))

  in_range : (s i : ℕ) → s < 4 * l.states → i < (collapsed l).moves s
      → (((collapsed l).move_at s i).to < 4 * l.states) × IsLetterSet ((collapsed l).move_at s i).letters
  in_range s i lt place = by_code (s % 4 == 0) refl place
    where
      Fits : Move → Type 0
      Fits m = (m.to < 4 * l.states) × IsLetterSet m.letters

      by_code : (b : Bool) → (s % 4 == 0) ≡ b → i < (if b then 4 * l.moves (s / 4) else 4 * l.moves (s / 4) + 1)
          → ((if b then other_move l s i else (if i == 0 then stay s else other_move l s (i - 1))).to < 4 * l.states)
          × IsLetterSet (if b then other_move l s i else (if i == 0 then stay s else other_move l s (i - 1))).letters
      by_code true is place = other_in_range s i lt place
      by_code false is place = by_first (i == 0) refl
        where
          by_first : (f : Bool) → (i == 0) ≡ f
              → ((if f then stay s else other_move l s (i - 1)).to < 4 * l.states) × IsLetterSet (if f then stay s else other_move l s (i - 1)).letters
          by_first true first = (lt, pow_below (s % 4 - 1) letter_count (omega arith))
          by_first false first = let some : i ≢ 0 = grind (arith, nat_tests) in other_in_range s (i - 1) lt (omega arith)

  pub collapsed_lawful : FitsCollapsed l → IsLawfulLabels (collapsed l)
  collapsed_lawful fits = record {
    few_states = omega (arith, fits.few_states);
    few_moves = λ s lt. count s lt (s % 4 == 0);
    to_in_range = λ s i lt place. (in_range s i lt place).0;
    letters_in_range = λ s i lt place. (in_range s i lt place).1;
  }
    where
      count : (s : ℕ) → s < 4 * l.states → (b : Bool) → (if b then 4 * l.moves (s / 4) else 4 * l.moves (s / 4) + 1) ≤ 2 ^ 20
      count s lt true = omega (arith, fits.few_moves (s / 4) (omega arith))
      count s lt false = omega (arith, fits.few_moves (s / 4) (omega arith))

  -- after a road letter, its code is the state's
  code_after : (s c r : ℕ) → c < 3 → Stays s c r ⊎ Goes s c r → r % 4 ≡ c + 1
  code_after s c r road (inl stays) = let n = stays.read in omega (arith, stays.letter, stays.same)
  code_after s c r road (inr goes) = omega (arith, goes.leads, code_road c road)

  after_in_range : (s c r : ℕ) → s < 4 * l.states → HasMove (collapsed l) s c r → r < 4 * l.states
  after_in_range s c r lt (i, move) = subst (λ k. k < 4 * l.states) move.to (in_range s i lt move.place).0

  -- the only move by the road letter that was read last is the one that stays
  only_first : (r c i p : ℕ) → r < 4 * l.states → c < 3 → r % 4 ≡ c + 1 → IsMove (collapsed l) r c p i → i ≡ 0
  only_first r c i p lt road own move = by_first (i == 0) refl
    where
      by_first : (f : Bool) → (i == 0) ≡ f → i ≡ 0
      by_first true first = grind (arith, nat_tests)
      by_first false first =
          let some : i ≢ 0 = grind (arith, nat_tests) in
          let marked : (r % 4 == 0) ≡ false = grind (arith, nat_tests) in
          let same : (collapsed l).move_at r i ≡ other_move l r (i - 1) =
          ap (λ b. if b then other_move l r i else (if i == 0 then stay r else other_move l r (i - 1))) marked
          ∙ ap (λ b. if b then stay r else other_move l r (i - 1)) first in
          let place : i < 4 * l.moves (r / 4) + 1 = subst (λ b. i < (if b then 4 * l.moves (r / 4) else 4 * l.moves (r / 4) + 1)) marked move.place in
          let goes = step_of_other r c p (i - 1) lt (omega arith) (subst (λ m. IsBitSet m.letters c) same move.letter) (ap (λ m. m.to) (sym same) ∙ move.to) in
          absurd (omega (arith, goes.other (code_road c road ∙ sym own), code_road c road))

  pub collapsed_road : IsRoadLabels (collapsed l)
  collapsed_road = record {
    again = λ s c r lt road move.
        let after = code_after s c r road (step_out s c r lt move) in
        stay_in r c (after_in_range s c r lt move) (omega arith) (omega arith);
    only = λ s c r p i j lt road move one other.
        let after = code_after s c r road (step_out s c r lt move) in
        let range = after_in_range s c r lt move in
        only_first r c i p range road after one ∙ sym (only_first r c j r range road after other);
  }
