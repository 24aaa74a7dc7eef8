-- Sets of states, state by state and letter by letter.
use Rattle.plan_base.proofs.Common.{◌≡◌, ℕ, ◌<◌, inl, inr, Bool, false, List, [], ◌∷◌, ◌++◌, length, get_or, refl, sym, ◌∙◌, ap, subst, arith, IsBitSet, cases_lt, get_or_past, bit_at_above}
use Rattle.search_laws.specs.{IsLetter, IsLetterSet, letter_count, LabelsMeaning, HasMove, Reads}
use Rattle.search_laws.proofs.WalkLemmas.{reads_more}
use Rattle.automaton.specs.{set_bit}
use Rattle.certificate.specs.{KnownStep, IsInSet, LeadsTo, IsKnownStep, AreKnown, IsKept, IsStateAfter, AreAfter, declared.state_sets.StateSets.StateSets}

-- ---- sets

pub in_range : (s : List Bool) (q : ℕ) → IsInSet s q → q < length s
in_range s q is = elim (cases_lt q (length s)) [
  | inl lt ↦ lt
  | inr ge ↦ (let none : get_or s q false ≡ false = get_or_past s q false ge in cc)
]

-- ---- letters

pub low_letter : (n c : ℕ) → IsLetterSet n → IsBitSet n c → IsLetter c
low_letter n c lt is = elim (cases_lt c letter_count) [
  | inl low ↦ low
  | inr high ↦ (let one = set_bit n c is in let none = bit_at_above n letter_count c lt high in cc)
]

module _ (l : LabelsMeaning) where
  -- the last letter of a word is read by a move
  reads_last : (word : List ℕ) (c q r : ℕ) → Reads l q (word ++ c ∷ []) r → (p : ℕ) × Reads l q word p × HasMove l p c r
  reads_last [] c q r (p, move, is) = (q, refl, subst (λ x. HasMove l q c x) (sym is) move)
  reads_last (d ∷ word) c q r (p, move, reads) =
      let (m, before, last) = reads_last word c p r reads in
      (m, (p, move, before), last)

  read_more : (letters : List ℕ) (c p r : ℕ) → IsStateAfter l letters p → HasMove l p c r → IsStateAfter l (letters ++ c ∷ []) r
  read_more letters c p r read move = record {
    first = read.first;
    is_state = read.is_state;
    is_start = read.is_start;
    reads = reads_more l letters (c ∷ []) read.first p r read.reads (r, move, refl);
  }

  -- one letter more
  pub after_more : (letters : List ℕ) (c : ℕ) (old new : StateSets) → AreAfter l letters old → length new.reached.items ≡ l.states → length new.next.items ≡ l.states
      → LeadsTo l old.reached.items c new.reached.items → AreKnown l new.known.items → AreAfter l (letters ++ c ∷ []) new
  after_more letters c old new after size room followed known = record { size = size; room = room; are = λ r. (there r, back r); known = known } where
    there : (r : ℕ) → IsInSet new.reached.items r → IsStateAfter l (letters ++ c ∷ []) r
    there r is =
        let (q, below, held, move) = (followed r).0 is in
        read_more letters c q r ((after.are q).0 held) move

    back : (r : ℕ) → IsStateAfter l (letters ++ c ∷ []) r → IsInSet new.reached.items r
    back r read =
        let (p, before, move) = reads_last letters c read.first r read.reads in
        let held = (after.are p).1 (record { first = read.first; is_state = read.is_state; is_start = read.is_start; reads = before }) in
        (followed r).1 (p, omega (arith, in_range old.reached.items p held, after.size), held, move)

  -- with one step more all are known
  pub known_more : (old new : List KnownStep) (letter : ℕ) (before after : List Bool) → AreKnown l old → length before ≡ l.states → length after ≡ l.states → LeadsTo l before letter after
      → length new ≡ length old → ((c : ℕ) (d : KnownStep) → c < length new → IsKept old letter before after c (get_or new c d)) → AreKnown l new
  known_more old new letter before after known size room leads same kept c d within = elim (kept c d within) [
    | inl is ↦ subst (IsKnownStep l c) (sym is) (known c (get_or new c d) (omega (arith, within, same)))
    | inr (here, from, to) ↦ record {
      before = ap length from ∙ size;
      after = ap length to ∙ room;
      leads = rw (from, to, here) leads;
    }
  ]
