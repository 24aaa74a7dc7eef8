-- The counting automaton keeps the laws of automata, and those of road letters where the inner one does. These are proofs, which a
-- ghost field and ghost members of its type cite; nothing is defined here that a contract means.
use Rattle.std.specs.Prelude.{◌≡◌, ◌≢◌, ℕ, ◌+◌, ◌*◌, ◌/◌, ◌%◌, ◌<◌, ◌≤◌, Bool, true, false, min, ◌==◌, nat_lt, nat_le, bit_and, IsBitSet, if◌then◌else◌, refl}
use Rattle.std.proofs.Common.{sym, ap, ◌∙◌, subst, lit<, arith}
use Rattle.std.proofs.lemmas.Bool.Decides.{nat_tests}
use Rattle.std.proofs.lemmas.Nat.{and_le_l, div-mul-add, mod-mul-add, div-add-mod', mul-add-lt}
use Rattle.std.proofs.lemmas.Nat.Bits.{bit_at_mask_inside, bit_at_above}
use Rattle.std.proofs.Math.Nat.{mul_comm, div-lt_iff_lt-mul}
use Rattle.search_laws.specs.{IsLetterSet, transit_letters, Move, LabelsMeaning, IsLawfulLabels, IsMove, HasMove, IsRoadLabels}
use Rattle.automaton.specs.{set_bit, bit_set, and_set, set_and, no_bits, letter_below, transit_set, set_transit}
use Rattle.few_boardings.specs.{declared.counted.Side.Side, Counted.is_transit, Counted.state_at, Counted.reads_on, Counted.counted_move, Counted.counted, Counted.FitsCounted}

-- what a letter adds to the count
abbrev pub added : ℕ → ℕ
added c = if is_transit c then 1 else 0

pub added_road : (c : ℕ) → c < 3 → added c ≡ 0
added_road c lt = let e : nat_le 3 c ≡ false = grind (arith, nat_tests) in rw e

pub added_transit : (c : ℕ) → 3 ≤ c → added c ≡ 1
added_transit c le = let e : nat_le 3 c ≡ true = grind (arith, nat_tests) in rw e

pub added_small : (c : ℕ) → added c < 2
added_small c = elim (is_transit c) as (λ b. (if b then 1 else 0) < 2) [ true ↦ lit< tt | false ↦ lit< tt ]

-- the road letters are those below 3
set_road : (c : ℕ) → IsBitSet 7 c → c < 3
set_road c set = letter_of (nat_lt c 3) refl
  where
    letter_of : (b : Bool) → nat_lt c 3 ≡ b → c < 3
    letter_of true is = grind (arith, nat_tests)
    letter_of false is = let le : 3 ≤ c = grind (arith, nat_tests) in let z = bit_at_above 7 3 c (lit< tt) le in let e = set_bit 7 c set in absurd (omega arith)

road_set : (c : ℕ) → c < 3 → IsBitSet 7 c
road_set c lt = bit_set 7 c (bit_at_mask_inside 0 3 c (omega arith) lt)

-- ---- states
module _ (limit : ℕ) where
  pub inner_of : (q k : ℕ) → k ≤ limit → state_at limit q k / (limit + 1) ≡ q
  inner_of q k le = div-mul-add q (limit + 1) k (omega arith)

  pub count_of : (q k : ℕ) → k ≤ limit → state_at limit q k % (limit + 1) ≡ k
  count_of q k le = mod-mul-add q (limit + 1) k (omega arith)

  pub parts_of : (s : ℕ) → state_at limit (s / (limit + 1)) (s % (limit + 1)) ≡ s
  parts_of s = div-add-mod' s (limit + 1)

  pub count_small : (s : ℕ) → s % (limit + 1) ≤ limit
  count_small s = let lt : s % (limit + 1) < limit + 1 = omega arith in omega arith

  pub state_below : (n q k : ℕ) → q < n → k ≤ limit → state_at limit q k < n * (limit + 1)
  state_below n q k lt le = subst (λ top. state_at limit q k < top) (mul_comm (limit + 1) n) (mul-add-lt q (limit + 1) k n lt (omega arith))

  pub inner_below : (n s : ℕ) → s < n * (limit + 1) → s / (limit + 1) < n
  inner_below n s lt = (div-lt_iff_lt-mul {k = limit + 1} {x = s} {y = n} (omega arith)).1 lt

  -- the count after a letter, or after so many: those beyond the limit are not counted
  abbrev pub count_after : ℕ → ℕ → ℕ
  count_after k more = min (k + more) limit

  pub after_small : (k more : ℕ) → count_after k more ≤ limit
  after_small k more = omega arith

-- ---- moves
-- where no letter is read beyond the limit, the count stays within it
abbrev pub KeepsWithin : Bool → ℕ → ℕ → Type 0
KeepsWithin more limit count = more ≡ false → count ≤ limit

-- a letter of a kind is one of the inner move, and leads to the state after it
pub record IsCountedLetter (more : Bool) (limit kind k : ℕ) (move : Move) (c : ℕ) : Type 0 where
  pub inner : IsBitSet move.letters c
  pub kind_is : kind ≡ added c
  pub keeps : KeepsWithin more limit (k + added c)
  pub leads : (counted_move more limit kind k move).to ≡ state_at limit move.to (count_after limit k (added c))

abbrev by_tests : Bool → Bool → Bool → ℕ → ℕ → Move → Move
by_tests road next more limit k move =
    if road then record { letters = bit_and move.letters 7; to = state_at limit move.to k }
    else (if next then record { letters = bit_and move.letters transit_letters; to = state_at limit move.to (k + 1) }
    else record { letters = (if more then bit_and move.letters transit_letters else 0); to = state_at limit move.to k })

pub counted_out : (more : Bool) (limit kind k : ℕ) (move : Move) (c : ℕ) → kind < 2 → k ≤ limit → IsBitSet (counted_move more limit kind k move).letters c
    → IsCountedLetter more limit kind k move c
counted_out more limit kind k move c small le set = on_tests (kind == 0) (nat_lt k limit) more refl refl refl set
  where
    -- by a transit letter, to the count after it
    transit : (next m : Bool) → (kind == 0) ≡ false → nat_lt k limit ≡ next → more ≡ m → IsBitSet (bit_and move.letters transit_letters) c → KeepsWithin more limit (k + 1)
        → (by_tests false next m limit k move).to ≡ state_at limit move.to (count_after limit k 1) → IsCountedLetter more limit kind k move c
    transit next m is test same set keeps to =
        let both = and_set move.letters transit_letters c set in
        let one = added_transit c (set_transit c both.1) in
        let some : kind ≢ 0 = grind (arith, nat_tests) in
        record {
          inner = both.0;
          kind_is = omega arith;
          keeps = subst (λ j. KeepsWithin more limit (k + j)) (sym one) keeps;
          leads = ap (λ (t : Bool). (by_tests t (nat_lt k limit) more limit k move).to) is ∙ ap (λ (t : Bool). (by_tests false t more limit k move).to) test
              ∙ ap (λ (t : Bool). (by_tests false next t limit k move).to) same ∙ to ∙ ap (λ j. state_at limit move.to (count_after limit k j)) (sym one);
        }

    on_tests : (a b m : Bool) → (kind == 0) ≡ a → nat_lt k limit ≡ b → more ≡ m → IsBitSet (by_tests a b m limit k move).letters c → IsCountedLetter more limit kind k move c
    on_tests true b m is test same set =
        let both = and_set move.letters 7 c set in
        let none = added_road c (set_road c both.1) in
        let zero_kind : kind ≡ 0 = grind (arith, nat_tests) in
        record {
          inner = both.0;
          kind_is = zero_kind ∙ sym none;
          keeps = λ closed. omega arith;
          leads = ap (λ (t : Bool). (by_tests t (nat_lt k limit) more limit k move).to) is ∙ ap (λ j. state_at limit move.to j) (omega arith);
        }
    on_tests false true m is test same set =
        let below : k < limit = grind (arith, nat_tests) in
        transit true m is test same set (λ closed. omega arith) (ap (λ j. state_at limit move.to j) (omega arith))
    on_tests false false true is test same set =
        let at : limit ≤ k = grind (arith, nat_tests) in
        transit false true is test same set (λ closed. absurd cc) (ap (λ j. state_at limit move.to j) (omega arith))
    on_tests false false false is test same set = absurd (no_bits c set)

-- the other way: at the place of its kind a letter of the inner move is one of the counting move
pub counted_in : (more : Bool) (limit k : ℕ) (move : Move) (c : ℕ) → IsLetterSet move.letters → IsBitSet move.letters c → KeepsWithin more limit (k + added c)
    → IsBitSet (counted_move more limit (added c) k move).letters c
counted_in more limit k move c few set keeps = by_letter (nat_le 3 c) refl
  where
    by_letter : (b : Bool) → nat_le 3 c ≡ b → IsBitSet (counted_move more limit (added c) k move).letters c
    by_letter false road =
        let lt : c < 3 = grind (arith, nat_tests) in
        let is : (added c == 0) ≡ true = ap (λ j. j == 0) (added_road c lt) in
        subst (λ (t : Bool). IsBitSet (by_tests t (nat_lt k limit) more limit k move).letters c) (sym is) (set_and move.letters 7 c set (road_set c lt))
    by_letter true transit =
        let le : 3 ≤ c = grind (arith, nat_tests) in
        let one = added_transit c le in
        let is : (added c == 0) ≡ false = ap (λ j. j == 0) one in
        subst (λ (t : Bool). IsBitSet (by_tests t (nat_lt k limit) more limit k move).letters c) (sym is)
        (by_count (nat_lt k limit) more refl refl one (set_and move.letters transit_letters c set (transit_set c le (letter_below move.letters c few set))))
      where
        by_count : (next m : Bool) → nat_lt k limit ≡ next → more ≡ m → added c ≡ 1 → IsBitSet (bit_and move.letters transit_letters) c
            → IsBitSet (by_tests false next m limit k move).letters c
        by_count true m test same one set = set
        by_count false true test same one set = set
        by_count false false test same one set =
            let within = keeps same in
            let at : limit ≤ k = grind (arith, nat_tests) in absurd (omega arith)

move_to : (more : Bool) (limit kind k n : ℕ) (move : Move) → k ≤ limit → move.to < n → (counted_move more limit kind k move).to < n * (limit + 1)
move_to more limit kind k n move le lt = on_tests (kind == 0) (nat_lt k limit) refl
  where
    on_tests : (a b : Bool) → nat_lt k limit ≡ b → (by_tests a b more limit k move).to < n * (limit + 1)
    on_tests true b test = state_below limit n move.to k lt le
    on_tests false true test = state_below limit n move.to (k + 1) lt (let below : k < limit = grind (arith, nat_tests) in omega arith)
    on_tests false false test = state_below limit n move.to k lt le

move_letters : (more : Bool) (limit kind k : ℕ) (move : Move) → IsLetterSet move.letters → IsLetterSet (counted_move more limit kind k move).letters
move_letters more limit kind k move few = on_tests (kind == 0) (nat_lt k limit) more
  where
    on_tests : (a b m : Bool) → IsLetterSet (by_tests a b m limit k move).letters
    on_tests true b m = omega (arith, and_le_l move.letters 7)
    on_tests false true m = omega (arith, and_le_l move.letters transit_letters)
    on_tests false false true = omega (arith, and_le_l move.letters transit_letters)
    on_tests false false false = lit< tt

module _ (l : LabelsMeaning) (lawful : IsLawfulLabels l) (side : Side) (limit : ℕ) where
  -- a move by a letter: the inner automaton moves by it, and it is counted
  pub record Counts (s c r : ℕ) : Type 0 where
    pub to : ℕ
    pub inner : HasMove l (s / (limit + 1)) c to
    pub keeps : KeepsWithin (reads_on side) limit (s % (limit + 1) + added c)
    pub leads : r ≡ state_at limit to (count_after limit (s % (limit + 1)) (added c))

  -- where a move leads
  pub inner_after : (s c r : ℕ) (counts : Counts s c r) → r / (limit + 1) ≡ counts.to
  inner_after s c r counts = ap (λ k. k / (limit + 1)) counts.leads ∙ inner_of limit counts.to _ (after_small limit (s % (limit + 1)) (added c))

  pub count_there : (s c r : ℕ) → Counts s c r → r % (limit + 1) ≡ count_after limit (s % (limit + 1)) (added c)
  count_there s c r counts = ap (λ k. k % (limit + 1)) counts.leads ∙ count_of limit counts.to _ (after_small limit (s % (limit + 1)) (added c))

  counts_at : (s c r i : ℕ) → IsMove (counted l side limit) s c r i → Counts s c r × (i % 2 ≡ added c) × IsMove l (s / (limit + 1)) c (r / (limit + 1)) (i / 2)
  counts_at s c r i move =
      let inner = l.move_at (s / (limit + 1)) (i / 2) in
      let here = counted_out (reads_on side) limit (i % 2) (s % (limit + 1)) inner c (omega arith) (count_small limit s) move.letter in
      let place : i / 2 < l.moves (s / (limit + 1)) = let p = move.place in omega arith in
      let leads : r ≡ state_at limit inner.to (count_after limit (s % (limit + 1)) (added c)) = sym move.to ∙ here.leads in
      let counts : Counts s c r = record { to = inner.to; inner = (i / 2, record { place = place; letter = here.inner; to = refl }); keeps = here.keeps; leads = leads } in
      (counts, here.kind_is, record { place = place; letter = here.inner; to = sym (inner_after s c r counts) })

  pub step_out : (s c r : ℕ) → HasMove (counted l side limit) s c r → Counts s c r
  step_out s c r (i, move) = (counts_at s c r i move).0

  pub step_in : (s c r : ℕ) → s < l.states * (limit + 1) → Counts s c r → HasMove (counted l side limit) s c r
  step_in s c r lt counts = found counts.inner
    where
      found : HasMove l (s / (limit + 1)) c counts.to → HasMove (counted l side limit) s c r
      found (j, move) =
          let inner = l.move_at (s / (limit + 1)) j in
          let more = reads_on side in
          let small : added c < 2 = added_small c in
          let i = 2 * j + added c in
          let place : i / 2 ≡ j = omega arith in
          let kind : i % 2 ≡ added c = omega arith in
          let few = lawful.letters_in_range (s / (limit + 1)) j (inner_below limit l.states s lt) move.place in
          let set = counted_in more limit (s % (limit + 1)) inner c few move.letter counts.keeps in
          let out = counted_out more limit (added c) (s % (limit + 1)) inner c small (count_small limit s) set in
          let here : (counted l side limit).move_at s i ≡ counted_move more limit (added c) (s % (limit + 1)) inner =
          ap (λ k. counted_move more limit k (s % (limit + 1)) (l.move_at (s / (limit + 1)) (i / 2))) kind
          ∙ ap (λ k. counted_move more limit (added c) (s % (limit + 1)) (l.move_at (s / (limit + 1)) k)) place in (
            i,
            record {
              place = let p = move.place in omega arith;
              letter = subst (λ (m : Move). IsBitSet m.letters c) (sym here) set;
              to = ap (λ (m : Move). m.to) here ∙ out.leads ∙ ap (λ t. state_at limit t (count_after limit (s % (limit + 1)) (added c))) move.to ∙ sym counts.leads;
            },
          )

  pub to_below : (s c r : ℕ) → s < l.states * (limit + 1) → Counts s c r → r < l.states * (limit + 1)
  to_below s c r lt counts = found counts.inner
    where
      found : HasMove l (s / (limit + 1)) c counts.to → r < l.states * (limit + 1)
      found (j, move) =
          let inner = subst (λ t. t < l.states) move.to (lawful.to_in_range (s / (limit + 1)) j (inner_below limit l.states s lt) move.place) in
          subst (λ t. t < l.states * (limit + 1)) (sym counts.leads) (state_below limit l.states counts.to _ inner (after_small limit (s % (limit + 1)) (added c)))

  pub counted_lawful : FitsCounted l limit → IsLawfulLabels (counted l side limit)
  counted_lawful fits = record {
    few_states = fits.few_states;
    few_moves = λ s lt. omega (arith, fits.few_moves (s / (limit + 1)) (inner_below limit l.states s lt));
    to_in_range = λ s i lt place. let q = inner_below limit l.states s lt in
        move_to (reads_on side) limit (i % 2) (s % (limit + 1)) l.states _ (count_small limit s) (lawful.to_in_range (s / (limit + 1)) (i / 2) q (omega arith));
    letters_in_range = λ s i lt place. let q = inner_below limit l.states s lt in
        move_letters (reads_on side) limit (i % 2) (s % (limit + 1)) _ (lawful.letters_in_range (s / (limit + 1)) (i / 2) q (omega arith));
  }

  -- a road letter leaves the count
  pub counted_road : IsRoadLabels l → IsRoadLabels (counted l side limit)
  counted_road road = record {
    again = λ s c r lt road_letter move.
        let counts = step_out s c r move in
        let after = road.again (s / (limit + 1)) c counts.to (inner_below limit l.states s lt) road_letter counts.inner in
        let none = added_road c road_letter in
        let small = count_small limit s in
        let count = count_there s c r counts in
        let same : count_after limit (r % (limit + 1)) (added c) ≡ count_after limit (s % (limit + 1)) (added c) = omega arith in
        step_in r c r (to_below s c r lt counts) (record {
          to = counts.to;
          inner = subst (λ q. HasMove l q c counts.to) (sym (inner_after s c r counts)) after;
          keeps = λ closed. omega (arith, counts.keeps closed);
          leads = counts.leads ∙ ap (λ k. state_at limit counts.to k) (sym same);
        });
    only = λ s c r p i j lt road_letter move one other.
        let counts = step_out s c r move in
        let first = counts_at r c p i one in
        let second = counts_at r c r j other in
        let came = subst (λ q. HasMove l (s / (limit + 1)) c q) (sym (inner_after s c r counts)) counts.inner in
        let same = road.only (s / (limit + 1)) c (r / (limit + 1)) (p / (limit + 1)) (i / 2) (j / 2) (inner_below limit l.states s lt) road_letter came first.2 second.2 in
        let a = first.1 in let b = second.1 in omega arith;
  }
