-- An automaton that reads no letter of transit accepts no word with one.
use Rattle.plan_base.proofs.Common.{◌≡◌, ℕ, ◌<◌, ◌≤◌, ◌⊎◌, List, [], ◌∷◌, inl, inr, refl, subst, arith, bit_and, IsBitSet}
use Rattle.search_laws.specs.{transit_letters, LabelsMeaning, IsLawfulLabels, Reads, Accepts}
use Rattle.automaton.specs.{set_and, no_bits, transit_set, letter_below}
use Rattle.few_boardings.specs.{AtLeast, transits, counted, AcceptsCounted, added_road}
use Rattle.few_boardings.proofs.CountedLemmas.{transits_more}
use Rattle.departures.specs.inside.{IsTransit, ReadsNoTransit}
use Rattle.latest_departure.proofs.OrderLemmas.{le_or_above}

-- a set without the bits of the letters of transit has none of them
pub none_set : (set c : ℕ) → bit_and set transit_letters ≡ 0 → IsTransit c → IsBitSet set c → ⊥
none_set set c none (high, few) is = no_bits c (subst (λ b. IsBitSet b c) none (set_and set transit_letters c is (transit_set c high few)))

module _ (l : LabelsMeaning) (lawful : IsLawfulLabels l) (none : ReadsNoTransit l) where
  -- so a letter that it reads is one of roads
  road_letter : (q i c : ℕ) → q < l.states → i < l.moves q → IsBitSet (l.move_at q i).letters c → (3 ≤ c) ⊎ (c < 3) → c < 3
  road_letter q i c lt place is (inl high) = absurd (none q lt i c place (high, letter_below (l.move_at q i).letters c (lawful.letters_in_range q i lt place) is) is)
  road_letter q i c lt place is (inr low) = low

  no_transits : (word : List ℕ) (q r : ℕ) → q < l.states → Reads l q word r → transits word ≡ 0
  no_transits [] q r lt same = refl
  no_transits (c ∷ word) q r lt (p, (i, move), more) =
      let road = road_letter q i c lt move.place move.letter (le_or_above 3 c) in
      let to = subst (λ s. s < l.states) move.to (lawful.to_in_range q i lt move.place) in
      omega (arith, transits_more c word, added_road c road, no_transits word p r to more)

  pub accepts_none : AcceptsCounted l AtLeast 1 → (word : List ℕ) → Accepts (counted l AtLeast 1) word → ⊥
  accepts_none counts word accepts =
      let both = (counts word).0 accepts in
      let (q, r, lt, start, reads, acc) = both.0 in
      let some = both.1 in
      let zero = no_transits word q r lt reads in absurd (omega arith)
