-- The states that are made stand for the reversed automaton.
use Rattle.plan_base.proofs.Common.{◌≡◌, ℕ, ◌+◌, ◌^◌, ◌<◌, ◌≤◌, ◌==◌, Bool, true, false, cond, IsBitSet, List, [], ◌∷◌, ◌++◌, length, get_or, map, refl, sym, ap, ◌∙◌, subst, arith, All, Contains, slice_index_or, flat_map, range_with_len, sum_by, nat_tests, flat_map-append, get_or_past, append_assoc, append-nil, get_or_default, get_or-map, map-append, length-flat_map, sum_by-le, sum_by-le-sum_by, All-nil, All-cons, length-range_with_len, get_or-range_with_len, length-map-range_with_len, get_or-map-range_with_len, map-range_with_len_more}
use Rattle.search_laws.specs.{IsLetterSet, Move, LabelsMeaning, IsLawfulLabels, HasMove, IsMove}
use Rattle.search_laws.proofs.WayLemmas.{range_more}
use Rattle.automaton.specs.{no_move}
use Rattle.latest_departure.specs.{IsReversed, StateLists, all_moves, turned_move, turned, turned_from, turned_below, no_state, states_meaning, turned_state, State, view_of}
use Rattle.latest_departure.proofs.OrderLemmas.{all_of_pieces, in_piece}

-- ---- ranges
pub pieces_more : {Y : Type 0} (f : ℕ → List Y) (n : ℕ) → flat_map f (range_with_len 0 (n + 1)) ≡ flat_map f (range_with_len 0 n) ++ f n
pieces_more {Y} f n =
    ap (flat_map f) (range_more 0 n 1) ∙ flat_map-append f (range_with_len 0 n) (range_with_len (0 + n) 1)
    ∙ ap (λ (ys : List Y). flat_map f (range_with_len 0 n) ++ ys) (append-nil (f (0 + n)) ∙ ap f (omega arith))

pub pieces_pushed : {Y : Type 0} (f : ℕ → List Y) (i : ℕ) (before now next : List Y) → now ≡ before ++ flat_map f (range_with_len 0 i) → next ≡ now ++ f i
    → next ≡ before ++ flat_map f (range_with_len 0 (i + 1))
pieces_pushed {Y} f i before now next so_far pushed =
    pushed ∙ ap (λ (ys : List Y). ys ++ f i) so_far ∙ append_assoc before (flat_map f (range_with_len 0 i)) (f i)
    ∙ ap (λ (ys : List Y). before ++ ys) (sym (pieces_more f i))

pub range_below : (n k : ℕ) → Contains (range_with_len 0 n) k → k < n
range_below n k (i, within, is) =
    let few = length-range_with_len 0 n in let at = get_or-range_with_len 0 n i k (omega arith) in omega arith

pub range_has : (n k : ℕ) → k < n → Contains (range_with_len 0 n) k
range_has n k lt = (k, let few = length-range_with_len 0 n in omega arith, get_or-range_with_len 0 n k k lt ∙ omega arith)

-- ---- the loops
module _ (l : LabelsMeaning) (r : ℕ) where
  pub turned_pushed : (q i : ℕ) (before now next : List Move) → now ≡ before ++ turned_from l r q i → next ≡ now ++ turned l r q i → next ≡ before ++ turned_from l r q (i + 1)
  turned_pushed q i before now next so_far pushed = pieces_pushed (turned l r q) i before now next so_far pushed

  pub below_pushed : (q : ℕ) (now next : List Move) → now ≡ turned_below l r q → next ≡ now ++ turned_from l r q (l.moves q) → next ≡ turned_below l r (q + 1)
  below_pushed q now next so_far pushed =
      pushed ∙ ap (λ (ms : List Move). ms ++ turned_from l r q (l.moves q)) so_far ∙ sym (pieces_more (λ (p : ℕ). turned_from l r p (l.moves p)) q)

pub states_pushed : (l : LabelsMeaning) (r : ℕ) (now next : List State) (state : State) → map view_of now ≡ map (turned_state l) (range_with_len 0 r) → view_of state ≡ turned_state l r
    → next ≡ now ++ state ∷ [] → map view_of next ≡ map (turned_state l) (range_with_len 0 (r + 1))
states_pushed l r now next state so_far is pushed =
    ap (map view_of) pushed ∙ map-append view_of now (state ∷ []) ∙ ap (λ (xs : List StateLists). xs ++ view_of state ∷ []) so_far
    ∙ ap (λ (x : StateLists). map (turned_state l) (range_with_len 0 r) ++ x ∷ []) is ∙ sym (map-range_with_len_more (turned_state l) 0 r r (omega arith))

pub view_read : (states : List State) (q : ℕ) (state : State) → q < length states → state ≡ get_or states q state → slice_index_or (map view_of states) q no_state ≡ view_of state
view_read states q state lt is = get_or-map view_of states q state no_state lt ∙ ap view_of (sym is)

-- ---- how many moves
few_turned : (r q : ℕ) (move : Move) → length (turned_move r q move) ≤ 1
few_turned r q move = on_test (move.to == r)
  where
    one : Move
    one = record { letters = move.letters; to = q }

    on_test : (b : Bool) → length (cond b (one ∷ []) []) ≤ 1
    on_test true = omega arith
    on_test false = omega arith

module _ (l : LabelsMeaning) where
  few_from : (r q k : ℕ) → length (turned_from l r q k) ≤ k
  few_from r q k =
      let sum = length-flat_map (turned l r q) (range_with_len 0 k) in
      let most = sum_by-le (λ i. length (turned l r q i)) 1 (range_with_len 0 k) (λ i d within. few_turned r q (l.move_at q _)) in
      let few = length-range_with_len 0 k in
      omega arith

  pub few_below : (r n : ℕ) → length (turned_below l r n) ≤ sum_by l.moves (range_with_len 0 n)
  few_below r n =
      let sum = length-flat_map (λ (q : ℕ). turned_from l r q (l.moves q)) (range_with_len 0 n) in
      let most = sum_by-le-sum_by (λ (q : ℕ). length (turned_from l r q (l.moves q))) l.moves (range_with_len 0 n) (λ q. few_from r q (l.moves q)) in
      omega arith

-- ---- the automaton
module _ (l : LabelsMeaning) (lawful : IsLawfulLabels l) where
  -- the move comes from a move of the other automaton that leads to r
  pub record IsTurned (r : ℕ) (move : Move) : Type 0 where
    pub to : move.to < l.states
    pub letters : IsLetterSet move.letters
    pub moves : (c : ℕ) → IsBitSet move.letters c → HasMove l move.to c r

  one_turned : (r q i : ℕ) → q < l.states → i < l.moves q → All (IsTurned r) (turned l r q i)
  one_turned r q i lt place = on_test ((l.move_at q i).to == r) refl
    where
      move : Move
      move = record { letters = (l.move_at q i).letters; to = q }

      on_test : (b : Bool) → ((l.move_at q i).to == r) ≡ b → All (IsTurned r) (cond b (move ∷ []) [])
      on_test false e = All-nil (IsTurned r)
      on_test true e =
          let leads : (l.move_at q i).to ≡ r = grind (arith, nat_tests) in
          All-cons (IsTurned r) move [] (record {
            to = lt;
            letters = lawful.letters_in_range q i lt place;
            moves = λ c set. (i, record { place = place; letter = set; to = leads });
          }) (All-nil (IsTurned r))

  all_turned : (r : ℕ) → All (IsTurned r) (turned_below l r l.states)
  all_turned r =
      all_of_pieces (λ (q : ℕ). turned_from l r q (l.moves q)) (IsTurned r) (range_with_len 0 l.states)
      (λ q there. all_of_pieces (turned l r q) (IsTurned r) (range_with_len 0 (l.moves q)) (λ i here. one_turned r q i (range_below l.states q there) (range_below (l.moves q) i here)))

  turned_there : (q c p : ℕ) → p < l.states → (i : ℕ) → IsMove l p c q i → Contains (turned_below l q l.states) (record { letters = (l.move_at p i).letters; to = p })
  turned_there q c p lt i is =
      in_piece (λ (s : ℕ). turned_from l q s (l.moves s)) (range_with_len 0 l.states) p move (range_has l.states p lt)
      (in_piece (turned l q p) (range_with_len 0 (l.moves p)) i move (range_has (l.moves p) i is.place) here)
    where
      move : Move
      move = record { letters = (l.move_at p i).letters; to = p }

      here : Contains (turned l q p i) move
      here =
          let test : ((l.move_at p i).to == q) ≡ true = let to = is.to in grind (arith, nat_tests) in
          subst (λ (b : Bool). Contains (cond b (move ∷ []) []) move) (sym test) (0, omega arith, refl)

  abbrev list : List StateLists
  list = map (turned_state l) (range_with_len 0 l.states)

  state_is : (q : ℕ) → q < l.states → slice_index_or list q no_state ≡ turned_state l q
  state_is q lt = get_or-map-range_with_len (turned_state l) 0 l.states q q no_state lt (omega arith)

  states_are : length list ≡ l.states
  states_are = length-map-range_with_len (turned_state l) 0 l.states

  -- a state has a move by this letter to p, at place i
  abbrev MovesBy : ℕ → ℕ → ℕ → StateLists → Type 0
  MovesBy c p i state = (i < length state.moves) × IsBitSet (slice_index_or state.moves i no_move).letters c × ((slice_index_or state.moves i no_move).to ≡ p)

  back_out : (q c p : ℕ) → q < l.states → HasMove (states_meaning list) q c p → HasMove l p c q
  back_out q c p lt (i, move) =
      let here = subst (MovesBy c p i) (state_is q lt) (move.place, move.letter, move.to) in
      let is = all_turned q i no_move here.0 in
      subst (λ s. HasMove l s c q) here.2 (is.moves c here.1)

  back_in : (q c p : ℕ) → q < l.states → p < l.states → HasMove l p c q → HasMove (states_meaning list) q c p
  back_in q c p lt below (i, is) = found (turned_there q c p below i is)
    where
      move : Move
      move = record { letters = (l.move_at p i).letters; to = p }

      found : Contains (turned_below l q l.states) move → HasMove (states_meaning list) q c p
      found (k, within, same) =
          let at : slice_index_or (turned_below l q l.states) k no_move ≡ move = get_or_default (turned_below l q l.states) k no_move move within ∙ same in
          let here : MovesBy c p k (turned_state l q) = (within, subst (λ (m : Move). IsBitSet m.letters c) (sym at) is.letter, ap (λ (m : Move). m.to) at) in
          let there = subst (MovesBy c p k) (sym (state_is q lt)) here in
          (k, record { place = there.0; letter = there.1; to = there.2 })

  pub made_reversed : IsReversed l (states_meaning list)
  made_reversed = record {
    states = states_are;
    starts = λ q lt. ap (λ (s : StateLists). s.starts) (state_is q lt);
    no_more = λ q past. ap (λ (s : StateLists). s.starts) (get_or_past list q no_state (let same = states_are in omega arith));
    accepts = λ q lt. ap (λ (s : StateLists). s.accepts) (state_is q lt);
    moves = λ q c p lt below. (back_out q c p lt, back_in q c p lt below);
  }

  pub made_few : all_moves l ≤ 2 ^ 16 → (q : ℕ) → q < l.states → (states_meaning list).moves q ≤ 2 ^ 16
  made_few few q lt =
      let same = ap (λ (s : StateLists). length s.moves) (state_is q lt) in
      let most = few_below l q l.states in omega arith

  pub made_lawful : all_moves l ≤ 2 ^ 16 → IsLawfulLabels (states_meaning list)
  made_lawful few = record {
    few_states = (let small = lawful.few_states in let same = states_are in omega arith);
    few_moves = λ q lt. (let small = made_few few q (subst (λ k. q < k) states_are lt) in omega arith);
    to_in_range = λ q i lt place. (let to = (at q i lt place).to in let same = states_are in omega arith);
    letters_in_range = λ q i lt place. (at q i lt place).letters;
  }
    where
      at : (q i : ℕ) → q < length list → i < (states_meaning list).moves q → IsTurned q ((states_meaning list).move_at q i)
      at q i lt place =
          let below = subst (λ k. q < k) states_are lt in
          let same = state_is q below in
          let within = subst (λ (s : StateLists). i < length s.moves) same place in
          subst (λ (s : StateLists). IsTurned q (slice_index_or s.moves i no_move)) (sym same) (all_turned q i no_move within)
