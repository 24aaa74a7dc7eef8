-- How states are made of rows.
use Rattle.plan_base.proofs.Common.{◌≡◌, ℕ, suc, ◌+◌, ◌-◌, ◌<◌, ◌≤◌, Bool, true, false, List, [], ◌∷◌, ◌++◌, length, get_or, map, take, reverse, if◌then◌else◌, refl, sym, ap, ◌∙◌, append-nil, add-one, arith, map-append, get_or-map, take_all, reverse_onto}
use Rattle.search_laws.specs.{Move}
use Rattle.automaton.specs.{declared.builder.Draft.Draft, State, StateView, view_of, view_at, no_view, moves_upto, state_for, states_for, inside.draft_row, inside.PositionRow, inside.position_row, inside.no_row, inside.has}

pub map-reverse : {X Y : Type 0} → (f : X → Y) (xs : List X) → map f (reverse xs) ≡ reverse (map f xs)
map-reverse f [] = refl
map-reverse f (x ∷ xs) =
    ap (map f) (reverse_onto xs x []) ∙ map-append f (reverse xs) (x ∷ []) ∙ ap (λ ys. ys ++ f x ∷ []) (map-reverse f xs)
    ∙ sym (reverse_onto (map f xs) (f x) [])

module _ (drafts : List Draft) (S : ℕ → Bool) where
  abbrev Rows : List PositionRow
  Rows = map draft_row drafts

  letters_here : (k : ℕ) (d : Draft) → k < length drafts → (position_row Rows (suc k)).letters ≡ (get_or drafts k d).letters
  letters_here k d lt =
      let e : suc k - 1 ≡ k = omega arith in
      ap (λ j. (get_or Rows j no_row).letters) e ∙ ap (λ row. row.letters) (get_or-map draft_row drafts k d no_row lt)

  -- one more position that is in the set
  pub moves_more : (k : ℕ) (d : Draft) (before moves : List Move) → k < length drafts → S (k + 1) ≡ true → before ≡ moves_upto Rows S k
      → moves ≡ before ++ record { letters = (get_or drafts k d).letters; to = k + 1 } ∷ [] → moves ≡ moves_upto Rows S (k + 1)
  moves_more k d before moves lt there so_far pushed =
      let one = add-one k in
      let here : S (suc k) ≡ true = ap S (sym one) ∙ there in
      let step : moves_upto Rows S (suc k) ≡ moves_upto Rows S k ++ record { letters = (position_row Rows (suc k)).letters; to = suc k } ∷ [] =
      ap (λ b. moves_upto Rows S k ++ (if b then record { letters = (position_row Rows (suc k)).letters; to = suc k } ∷ [] else [])) here in
      pushed ∙ ap (λ ms. ms ++ record { letters = (get_or drafts k d).letters; to = k + 1 } ∷ []) so_far
      ∙ ap (λ n. moves_upto Rows S k ++ record { letters = (get_or drafts k d).letters; to = n } ∷ []) one
      ∙ ap (λ b. moves_upto Rows S k ++ record { letters = b; to = suc k } ∷ []) (sym (letters_here k d lt))
      ∙ sym step ∙ ap (moves_upto Rows S) (sym one)

  -- and one that is not
  pub moves_same : (k : ℕ) → S (k + 1) ≡ false → moves_upto Rows S k ≡ moves_upto Rows S (k + 1)
  moves_same k not_there =
      let one = add-one k in
      let here : S (suc k) ≡ false = ap S (sym one) ∙ not_there in
      sym (append-nil (moves_upto Rows S k))
      ∙ sym (ap (λ b. moves_upto Rows S k ++ (if b then record { letters = (position_row Rows (suc k)).letters; to = suc k } ∷ [] else [])) here)
      ∙ ap (moves_upto Rows S) (sym one)

map_states : (rows : List PositionRow) (drafts : List Draft) → map (λ draft. state_for rows (has draft.next)) drafts ≡ map (λ row. state_for rows row.next) (map draft_row drafts)
map_states rows [] = refl
map_states rows (draft ∷ drafts) = ap (λ xs. state_for rows (has draft.next) ∷ xs) (map_states rows drafts)

pub states_made : (drafts : List Draft) (S : ℕ → Bool) (views : List StateView) (i : ℕ) → length drafts ≤ i
    → views ≡ state_for (map draft_row drafts) S ∷ map (λ draft. state_for (map draft_row drafts) (has draft.next)) (take i drafts)
    → views ≡ states_for (map draft_row drafts) S
states_made drafts S views i all made =
    made ∙ ap (λ ds. state_for (map draft_row drafts) S ∷ map (λ draft. state_for (map draft_row drafts) (has draft.next)) ds) (take_all i drafts all)
    ∙ ap (λ xs. state_for (map draft_row drafts) S ∷ xs) (map_states (map draft_row drafts) drafts)

-- a state that was read from the list
pub view_read : (states : List State) (q : ℕ) (state : State) → q < length states → state ≡ get_or states q state
    → view_at (map view_of states) q ≡ view_of state
view_read states q state lt is = get_or-map view_of states q state no_view lt ∙ ap view_of (sym is)
