-- Sets of states of an automaton, and the letters that lead to them.
use Rattle.std.specs.Prelude.{◌≡◌, ℕ, ◌<◌, ◌↔◌, ◌⊎◌, Bool, true, false, List, length, slice_index_or, IsTrue}
use Rattle.search_laws.specs.{LabelsMeaning, IsMove, HasMove, Reads}
pub use Rattle.certificate.specs.{declared.state_sets.KnownStep.KnownStep, declared.state_sets.StateSets.StateSets}

-- the state is in the set
abbrev pub IsInSet : List Bool → ℕ → Type 0
IsInSet set q = slice_index_or set q false ≡ true

-- the states of which P holds were put into the set, and no others
abbrev pub AreAdded : List Bool → List Bool → (ℕ → Type 0) → Type 0
AreAdded old new P = (r : ℕ) → IsInSet new r ↔ (IsInSet old r ⊎ P r)

-- one of the first k moves of q is by the letter, and leads to r
abbrev pub HasMoveBelow : LabelsMeaning → ℕ → ℕ → ℕ → ℕ → Type 0
HasMoveBelow l k q c r = (i : ℕ) × (i < k) × IsMove l q c r i

-- one of the first k states is in the set, and a move by the letter leads from it to r
abbrev pub HasMoveFrom : LabelsMeaning → ℕ → List Bool → ℕ → ℕ → Type 0
HasMoveFrom l k set c r = (q : ℕ) × (q < k) × IsInSet set q × HasMove l q c r

-- some start state reads the letters to this state
pub record IsStateAfter (l : LabelsMeaning) (letters : List ℕ) (r : ℕ) : Type 0 where
  pub first : ℕ
  pub is_state : first < l.states
  pub is_start : IsTrue (l.is_start first)
  pub reads : Reads l first letters r

-- the letter leads the states of the one set to exactly those of the other
abbrev pub LeadsTo : LabelsMeaning → List Bool → ℕ → List Bool → Type 0
LeadsTo l before c after = (r : ℕ) → IsInSet after r ↔ HasMoveFrom l l.states before c r

-- the step is one by the letter
pub record IsKnownStep (l : LabelsMeaning) (c : ℕ) (step : KnownStep) : Type 0 where
  pub before : length step.before.items ≡ l.states
  pub after : length step.after.items ≡ l.states
  pub leads : LeadsTo l step.before.items c step.after.items

-- for each letter a step by it
abbrev pub AreKnown : LabelsMeaning → List KnownStep → Type 0
AreKnown l known = (c : ℕ) (d : KnownStep) → c < length known → IsKnownStep l c (slice_index_or known c d)

-- the step at the place of a letter is what it was, or, at that of this letter, leads from the one set to the other
abbrev pub IsKept : List KnownStep → ℕ → List Bool → List Bool → ℕ → KnownStep → Type 0
IsKept old letter before after c step = (step ≡ slice_index_or old c step) ⊎ ((c ≡ letter) × (step.before.items ≡ before) × (step.after.items ≡ after))

-- both sets have a place for each state, and the states that the letters are read to are exactly those of the one
pub record AreAfter (l : LabelsMeaning) (letters : List ℕ) (sets : StateSets) : Type 0 where
  pub size : length sets.reached.items ≡ l.states
  pub room : length sets.next.items ≡ l.states
  pub are : (r : ℕ) → IsInSet sets.reached.items r ↔ IsStateAfter l letters r
  pub known : AreKnown l sets.known.items
