-- The pairs of starts and start states, and the first of them that is not listed.
use Rattle.plan_base.proofs.Common.{◌≡◌, ℕ, zero, suc, ◌+◌, ◌<◌, ◌≤◌, true, false, cond, List, [], ◌∷◌, ◌++◌, length, take, drop, map, get_or, slice_index, inl, inr, refl, sym, ◌∙◌, ap, subst, append_assoc, append-nil, add-one, length-append, arith, Option, Some, None, MatchOption, IsTrue, Contains, cases_lt, take_more, take-append-drop, map-append, length-map, get_or-map, get_or_default, All-append, All-nil, All-cons, All-same, Contains-append_left, Contains-append_right, get_or_append_left, get_or-append_seam}
use Rattle.product_search.specs.{IsBefore, Label, start_states, pairs_at, start_pairs, IsPairListed, AllListed, FailsAt, StartIsListedAt}
use Rattle.search_laws.specs.{LabelsMeaning, HoldsBelow, FailsFirstAt}

-- ---- the start states below a number

pub start_states_yes : (l : LabelsMeaning) (q : ℕ) → l.is_start q ≡ true → start_states l (q + 1) ≡ start_states l q ++ q ∷ []
start_states_yes l q is = rw add-one (ap (λ b. start_states l q ++ cond b (q ∷ []) []) is)

pub start_states_no : (l : LabelsMeaning) (q : ℕ) → l.is_start q ≡ false → start_states l (q + 1) ≡ start_states l q
start_states_no l q is = rw add-one (ap (λ b. start_states l q ++ cond b (q ∷ []) []) is ∙ append-nil (start_states l q))

-- a start state below n stands after those below it
pub start_states_split : (l : LabelsMeaning) (n q : ℕ) → q < n → l.is_start q ≡ true → (rest : List ℕ) × (start_states l n ≡ start_states l q ++ q ∷ rest)
start_states_split l zero q lt is = absurd (omega arith)
start_states_split l (suc n) q lt is = elim (cases_lt q n) [
  | inr ge ↦ ([], (let e : q ≡ n = omega arith in subst (λ m. start_states l (suc m) ≡ start_states l q ++ q ∷ []) e (ap (λ b. start_states l q ++ cond b (q ∷ []) []) is)))
  | inl below ↦ (let before = start_states_split l n q below is in (
    before.0 ++ cond (l.is_start n) (n ∷ []) [],
    ap (λ xs. xs ++ cond (l.is_start n) (n ∷ []) []) before.1 ∙ append_assoc (start_states l q) (q ∷ before.0) (cond (l.is_start n) (n ∷ []) []),
  ))
]

-- ---- pairs

pub pairs_more : (v : ℕ) (states more : List ℕ) (q : ℕ) → more ≡ states ++ q ∷ [] → pairs_at v more ≡ pairs_at v states ++ (v, q) ∷ []
pairs_more v states more q e = ap (λ xs. pairs_at v xs) e ∙ map-append (λ q. (v, q)) states (q ∷ [])

pub start_pairs-append : (l : LabelsMeaning) (xs ys : List ℕ) → start_pairs l (xs ++ ys) ≡ start_pairs l xs ++ start_pairs l ys
start_pairs-append l [] ys = refl
start_pairs-append l (v ∷ xs) ys =
    ap (λ ps. pairs_at v (start_states l l.states) ++ ps) (start_pairs-append l xs ys)
    ∙ sym (append_assoc (pairs_at v (start_states l l.states)) (start_pairs l xs) (start_pairs l ys))

pub start_pairs_more : (l : LabelsMeaning) (starts : List ℕ) (i : ℕ) → i < length starts
    → start_pairs l (take (i + 1) starts) ≡ start_pairs l (take i starts) ++ pairs_at (slice_index starts i) (start_states l l.states)
start_pairs_more l starts i lt =
    ap (λ xs. start_pairs l xs) (take_more starts i 0 lt) ∙ start_pairs-append l (take i starts) (slice_index starts i ∷ [])
    ∙ ap (λ ps. start_pairs l (take i starts) ++ ps) (append-nil (pairs_at (slice_index starts i) (start_states l l.states)))

pub start_pairs_split : (l : LabelsMeaning) (starts : List ℕ) (i : ℕ) → i < length starts
    → start_pairs l starts ≡ (start_pairs l (take i starts) ++ pairs_at (slice_index starts i) (start_states l l.states)) ++ start_pairs l (drop (i + 1) starts)
start_pairs_split l starts i lt =
    ap (λ xs. start_pairs l xs) (sym (take-append-drop (i + 1) starts)) ∙ start_pairs-append l (take (i + 1) starts) (drop (i + 1) starts)
    ∙ ap (λ ps. ps ++ start_pairs l (drop (i + 1) starts)) (start_pairs_more l starts i lt)

-- ---- listed pairs

pub all_listed_more : (list : List Label) (dep : ℕ) (pairs more : List (ℕ × ℕ)) (p : ℕ × ℕ) → more ≡ pairs ++ p ∷ [] → AllListed list dep pairs → IsPairListed list dep p
    → AllListed list dep more
all_listed_more list dep pairs more p e all here = All-same (IsPairListed list dep) more (pairs ++ p ∷ []) e
    (All-append (IsPairListed list dep) pairs (p ∷ []) all (All-cons (IsPairListed list dep) p [] here (All-nil (IsPairListed list dep))))

pub all_listed_both : (list : List Label) (dep : ℕ) (xs ys all : List (ℕ × ℕ)) → all ≡ xs ++ ys → AllListed list dep xs → AllListed list dep ys → AllListed list dep all
all_listed_both list dep xs ys all e first next = All-same (IsPairListed list dep) all (xs ++ ys) e (All-append (IsPairListed list dep) xs ys first next)

-- a place that fails in the middle
pub fails_between : (list : List Label) (dep : ℕ) (xs ys zs all : List (ℕ × ℕ)) (n k : ℕ) → all ≡ (xs ++ ys) ++ zs → n ≡ length xs → AllListed list dep xs → FailsAt list dep ys k
    → FailsAt list dep all (n + k)
fails_between list dep xs ys zs all n k e count listed fails = record {
  front = xs ++ fails.front;
  pair = fails.pair;
  rest = fails.rest ++ zs;
  split = e ∙ ap (λ p. (xs ++ p) ++ zs) fails.split ∙ regroup xs fails.front fails.pair fails.rest zs;
  place = length-append xs fails.front ∙ omega (arith, fails.place);
  listed = All-append (IsPairListed list dep) xs fails.front listed fails.listed;
  unlisted = fails.unlisted;
} where
  regroup : (xs front : List (ℕ × ℕ)) (pair : ℕ × ℕ) (rest zs : List (ℕ × ℕ)) → (xs ++ (front ++ pair ∷ rest)) ++ zs ≡ (xs ++ front) ++ pair ∷ (rest ++ zs)
  regroup xs front pair rest zs = simp append_assoc

pub fails_in_states : (l : LabelsMeaning) (list : List Label) (dep v n q count : ℕ) → q < n → l.is_start q ≡ true → count ≡ length (start_states l q)
    → AllListed list dep (pairs_at v (start_states l q)) → (IsPairListed list dep (v, q) → ⊥) → FailsAt list dep (pairs_at v (start_states l n)) count
fails_in_states l list dep v n q count lt is counted listed unlisted =
    let states = start_states_split l n q lt is in
    record {
      front = pairs_at v (start_states l q);
      pair = (v, q);
      rest = pairs_at v states.0;
      split = ap (λ xs. pairs_at v xs) states.1 ∙ map-append (λ q. (v, q)) (start_states l q) (q ∷ states.0);
      place = length-map (start_states l q) (λ q. (v, q)) ∙ sym counted;
      listed = listed;
      unlisted = unlisted;
    }

-- ---- one state, and one start, more

pub record IsCounted (l : LabelsMeaning) (list : List Label) (dep v q count : ℕ) : Type 0 where
  pub counted : count ≡ length (start_states l q)
  pub few : count ≤ q
  pub listed : AllListed list dep (pairs_at v (start_states l q))

pub counted_yes : (l : LabelsMeaning) (list : List Label) (dep v q count : ℕ) → IsCounted l list dep v q count → l.is_start q ≡ true → IsPairListed list dep (v, q)
    → IsCounted l list dep v (q + 1) (count + 1)
counted_yes l list dep v q count so_far is here =
    let more = start_states_yes l q is in
    record {
      counted = ap (λ n. n + 1) so_far.counted ∙ sym (ap length more ∙ length-append (start_states l q) (q ∷ []));
      few = omega (arith, so_far.few);
      listed = all_listed_more list dep (pairs_at v (start_states l q)) (pairs_at v (start_states l (q + 1))) (v, q) (pairs_more v (start_states l q) (start_states l (q + 1)) q more) so_far.listed here;
    }

pub counted_no : (l : LabelsMeaning) (list : List Label) (dep v q count : ℕ) → IsCounted l list dep v q count → l.is_start q ≡ false → IsCounted l list dep v (q + 1) count
counted_no l list dep v q count so_far is =
    let same = start_states_no l q is in
    record {
      counted = so_far.counted ∙ sym (ap length same);
      few = omega (arith, so_far.few);
      listed = all_listed_both list dep (pairs_at v (start_states l q)) [] (pairs_at v (start_states l (q + 1)))
          (ap (λ xs. pairs_at v xs) same ∙ sym (append-nil (pairs_at v (start_states l q)))) so_far.listed (All-nil (IsPairListed list dep));
    }

-- ---- by places

pub listed_at : (l : LabelsMeaning) (starts : List ℕ) (dep : ℕ) (arrival : Option ℕ) (list : List Label) → AllListed list dep (start_pairs l starts)
    → HoldsBelow (length (start_pairs l starts)) (StartIsListedAt l starts dep arrival list)
listed_at l starts dep arrival list all k lt d before = all k d lt

pub fails_first : (l : LabelsMeaning) (starts : List ℕ) (dep : ℕ) (arrival : Option ℕ) (list : List Label) (k : ℕ) → IsBefore arrival dep → FailsAt list dep (start_pairs l starts) k
    → FailsFirstAt (length (start_pairs l starts)) (StartIsListedAt l starts dep arrival list) k
fails_first l starts dep arrival list k before fails = record {
  place = (let n = ap length fails.split ∙ length-append fails.front (fails.pair ∷ fails.rest) in omega (arith, n, fails.place));
  fails = λ listed. fails.unlisted (subst (λ p. IsPairListed list dep p) (here fails.pair) (listed fails.pair before));
  before = λ j lt d asked. subst (λ p. IsPairListed list dep p) (earlier j d lt) (fails.listed j d (omega (arith, fails.place)));
} where
  here : (d : ℕ × ℕ) → get_or (start_pairs l starts) k d ≡ fails.pair
  here d = ap (λ ps. get_or ps k d) fails.split ∙ ap (λ i. get_or (fails.front ++ fails.pair ∷ fails.rest) i d) (sym fails.place) ∙ get_or-append_seam fails.front fails.pair fails.rest d

  earlier : (j : ℕ) (d : ℕ × ℕ) → j < k → get_or fails.front j d ≡ get_or (start_pairs l starts) j d
  earlier j d lt = sym (ap (λ ps. get_or ps j d) fails.split ∙ get_or_append_left fails.front (fails.pair ∷ fails.rest) d j (omega (arith, fails.place)))

pub match_places : (l : LabelsMeaning) (starts : List ℕ) (dep : ℕ) (arrival : Option ℕ) (list : List Label) (o : Option ℕ) → IsBefore arrival dep
    → MatchOption o (AllListed list dep (start_pairs l starts)) (FailsAt list dep (start_pairs l starts))
    → MatchOption o (HoldsBelow (length (start_pairs l starts)) (StartIsListedAt l starts dep arrival list)) (FailsFirstAt (length (start_pairs l starts)) (StartIsListedAt l starts dep arrival list))
match_places l starts dep arrival list None before all = listed_at l starts dep arrival list all
match_places l starts dep arrival list (Some k) before fails = fails_first l starts dep arrival list k before fails

-- ---- a start in a start state is a pair

states_contain : (l : LabelsMeaning) (n q : ℕ) → q < n → IsTrue (l.is_start q) → Contains (start_states l n) q
states_contain l n q lt is = let states = start_states_split l n q lt is in
    subst (λ xs. Contains xs q) (sym states.1) (Contains-append_right (start_states l q) (q ∷ states.0) q (0, (omega arith), refl))

contains_map : {X Y : Type 0} (f : X → Y) (xs : List X) (x : X) → Contains xs x → Contains (map f xs) (f x)
contains_map f xs x (k, lt, is) = (k, omega (arith, length-map xs f), get_or-map f xs k x (f x) lt ∙ ap f is)

pub pairs_contain : (l : LabelsMeaning) (starts : List ℕ) (v q : ℕ) → Contains starts v → q < l.states → IsTrue (l.is_start q) → Contains (start_pairs l starts) (v, q)
pairs_contain l starts v q (k, lt, is) in_range start =
    let states = start_states l l.states in
    let w = slice_index starts k in
    let same : w ≡ v = get_or_default starts k 0 v lt ∙ is in
    let here : Contains (pairs_at w states) (w, q) = contains_map (λ q. (w, q)) states q (states_contain l l.states q in_range start) in
    let there : Contains (start_pairs l starts) (w, q) = subst (λ ps. Contains ps (w, q)) (sym (start_pairs_split l starts k lt))
    (Contains-append_left (start_pairs l (take k starts) ++ pairs_at w states) (start_pairs l (drop (k + 1) starts)) (w, q)
    (Contains-append_right (start_pairs l (take k starts)) (pairs_at w states) (w, q) here)) in
    subst (λ u. Contains (start_pairs l starts) (u, q)) same there
