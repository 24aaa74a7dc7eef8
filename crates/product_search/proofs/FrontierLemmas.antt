-- What a frontier has after a way was taken, and after items were taken from its queue; and its chains.
use Rattle.plan_base.proofs.Common.{◌≡◌, ◌≢◌, ℕ, ◌+◌, ◌-◌, ◌*◌, ◌/◌, ◌<◌, ◌≤◌, ◌⊎◌, inl, inr, List, [], ◌∷◌, ◌++◌, length, get_or, Option, Some, None, IfNone, zero, suc, refl, sym, ◌∙◌, ap, subst, arith, Vec, Contains, ◌^◌, slice_get, slice_set, slice_index, cases_eq, cases_lt, length_push, Contains-push_cases, slice_get_within, slice_get_cases, slice_get_read, Global}
use Rattle.std.proofs.Common.{mul-div_cancel}
use Rattle.product_search.specs.{declared.queue.Item.Item, declared.queue.Queue.Queue, declared.row.Reached.Reached, declared.row.Row.Row, declared.row.Taken.Taken, declared.frontier.Scan.Scan, declared.frontier.Frontier.Frontier, inside.IsQueue, inside.TakesIn, inside.Gives, inside.Turns, inside.Narrows, inside.queue_len, inside.rows, inside.ways, inside.IsAt, inside.IsApart, inside.IsNowhere, inside.chain_of, inside.chain_in, inside.IsLast, inside.IsIndexed, inside.IsClear, inside.HasChainsFrom, inside.IsReachedBy, inside.IsLastWay, inside.Waits, inside.IsFrontier, inside.IsSameBut, inside.IsScanOf, inside.IsPassedOver, inside.Takes, inside.TakesNone, inside.IsReady, inside.GivesItem, inside.PutsAgain, inside.Rearranges, inside.taken_as, inside.IsNoLater, inside.IsGiven, inside.IsTakenAs, inside.Offers}

-- ---- a list of which one element is new

-- ys has x at n, and elsewhere what xs has
pub record IsPut (X : Type 0) (xs ys : List X) (n : ℕ) (x : X) : Type 0 where
  pub there : slice_get ys n ≡ Some x
  pub others : (k : ℕ) → (k ≡ n → ⊥) → slice_get ys k ≡ slice_get xs k

put_push : (X : Type 0) (xs : List X) (x : X) → IsPut X xs (xs ++ x ∷ []) (length xs) x
put_push X xs x = record { there = last xs; others = other xs } where
  last : (xs : List X) → slice_get (xs ++ x ∷ []) (length xs) ≡ Some x
  last [] = refl
  last (z ∷ xs) = last xs

  other : (xs : List X) (k : ℕ) → (k ≡ length xs → ⊥) → slice_get (xs ++ x ∷ []) k ≡ slice_get xs k
  other [] zero not = absurd (not refl)
  other [] (suc k) not = refl
  other (z ∷ xs) zero not = refl
  other (z ∷ xs) (suc k) not = other xs k (λ e. not (ap suc e))

put_set : (X : Type 0) (xs : List X) (n : ℕ) (x y : X) → slice_get xs n ≡ Some y → IsPut X xs (slice_set xs n x) n x
put_set X xs n x y is = record { there = same xs n is; others = other xs n } where
  same : (xs : List X) (n : ℕ) → slice_get xs n ≡ Some y → slice_get (slice_set xs n x) n ≡ Some x
  same [] n is = cc
  same (z ∷ xs) zero is = refl
  same (z ∷ xs) (suc n) is = same xs n is

  other : (xs : List X) (n k : ℕ) → (k ≡ n → ⊥) → slice_get (slice_set xs n x) k ≡ slice_get xs k
  other [] n k not = refl
  other (z ∷ xs) zero zero not = absurd (not refl)
  other (z ∷ xs) zero (suc k) not = refl
  other (z ∷ xs) (suc n) zero not = refl
  other (z ∷ xs) (suc n) (suc k) not = other xs n k (λ e. not (ap suc e))

pub same_element : (X : Type 0) (xs : List X) (k : ℕ) (x y : X) → slice_get xs k ≡ Some x → slice_get xs k ≡ Some y → x ≡ y
same_element X xs k x y is also = let h : Some x ≡ Some y = sym is ∙ also in cc

put_cases : (X : Type 0) (xs ys : List X) (n : ℕ) (x : X) → IsPut X xs ys n x → (k : ℕ) (y : X) → slice_get ys k ≡ Some y
    → ((k ≡ n) × (x ≡ y)) ⊎ ((k ≡ n → ⊥) × (slice_get xs k ≡ Some y))
put_cases X xs ys n x put k y is = elim (cases_eq k n) [
  | inl same ↦ inl (same, same_element X ys n x y put.there (subst (λ j. slice_get ys j ≡ Some y) same is))
  | inr other ↦ inr (other, sym (put.others k other) ∙ is)
]

-- ---- chains

-- a chain is of one node
same_node : (count v w q : ℕ) → 0 < count → chain_of count v q ≡ chain_of count w q → v ≡ w
same_node count v w q some same =
    let e : v * count ≡ w * count = omega (arith, same) in
    sym (mul-div_cancel v some) ∙ ap (λ n. n / count) e ∙ mul-div_cancel w some

same_chain : (count : ℕ) (r : Row) (v q : ℕ) → r.node ≡ v → r.state ≡ q → chain_in count r ≡ chain_of count v q
same_chain count r v q node state = ap (λ w. chain_of count w r.state) node ∙ ap (λ s. chain_of count v s) state

-- ---- one row is new, or no later than it was

pub record Changes (old new : List Row) (n : ℕ) (x : Row) : Type 0 where
  pub put : IsPut Row old new n x
  pub place : (e : Row) → slice_get old n ≡ Some e → IsNoLater e x
  pub only : (k : ℕ) → IsAt old x.node x.state k → k ≡ n

pub changes_push : (rs : List Row) (x : Row) → IsNowhere rs x.node x.state → Changes rs (rs ++ x ∷ []) (length rs) x
changes_push rs x nowhere = record {
  put = put_push Row rs x;
  place = λ e known. (let lt : length rs < length rs = slice_get_within rs (length rs) e known in absurd (omega arith));
  only = λ k at. absurd (nowhere k at);
}

pub changes_set : (rs : List Row) (n : ℕ) (x e : Row) → IsApart rs → slice_get rs n ≡ Some e → IsNoLater e x → Changes rs (slice_set rs n x) n x
changes_set rs n x e apart known later = record {
  put = put_set Row rs n x e known;
  place = λ d also. subst (λ y. IsNoLater y x) (same_element Row rs n e d known also) later;
  only = λ k at. apart x.node x.state k n at (record { row = e; known = known; node = sym later.node; state = sym later.state });
}

module _ (old new : List Row) (n : ℕ) (x : Row) (changes : Changes old new n x) where
  row_cases : (k : ℕ) (e : Row) → slice_get new k ≡ Some e → ((k ≡ n) × (x ≡ e)) ⊎ ((k ≡ n → ⊥) × (slice_get old k ≡ Some e))
  row_cases = put_cases Row old new n x changes.put

  row_kept : (k : ℕ) (e : Row) → slice_get old k ≡ Some e → (now : Row) × (slice_get new k ≡ Some now) × IsNoLater e now
  row_kept k e known = elim (cases_eq k n) [
    | inl same ↦ (x, ap (slice_get new) same ∙ changes.put.there, changes.place e (ap (slice_get old) (sym same) ∙ known))
    | inr other ↦ (e, changes.put.others k other ∙ known, record { node = refl; state = refl; delay = omega arith })
  ]

  row_before : (k : ℕ) (e : Row) → k < length old → slice_get new k ≡ Some e → (d : Row) × (slice_get old k ≡ Some d) × IsNoLater d e
  row_before k e lt known = elim ((slice_get_cases old k).1) [
    | inl there ↦ (let now = row_kept k there.0 there.2 in
        (there.0, there.2, subst (λ y. IsNoLater there.0 y) (same_element Row new k now.0 e now.1 known) now.2))
    | inr past ↦ absurd (omega (arith, past.0))
  ]

  lone : (v q j k : ℕ) (at : IsAt new v q j) (also : IsAt new v q k) → x ≡ at.row → (k ≡ n → ⊥) → slice_get old k ≡ Some also.row → ⊥
  lone v q j k at also is other known = other (changes.only k (record {
    row = also.row;
    known = known;
    node = also.node ∙ sym at.node ∙ sym (ap (λ (y : Row). y.node) is);
    state = also.state ∙ sym at.state ∙ sym (ap (λ (y : Row). y.state) is);
  }))

  apart_still : IsApart old → IsApart new
  apart_still apart v q j k at also = elim (row_cases j at.row at.known) [
    | inl here ↦ elim (row_cases k also.row also.known) [
      | inl too ↦ here.0 ∙ sym too.0
      | inr other ↦ absurd (lone v q j k at also here.1 other.0 other.1)
    ]
    | inr there ↦ elim (row_cases k also.row also.known) [
      | inl here ↦ absurd (lone v q k j also at here.1 there.0 there.1)
      | inr other ↦ apart v q j k (record { row = at.row; known = there.1; node = at.node; state = at.state })
          (record { row = also.row; known = other.1; node = also.node; state = also.state })
    ]
  ]

  -- below the end of the old rows each is in the chain in which it was
  last_still : (count chain below c : ℕ) → below ≤ length old → IsLast count old chain below c → IsLast count new chain below c
  last_still count chain below c le last = record {
    none_after = λ k e known from lt in_chain. (let d = row_before k e (omega arith) known in
        last.none_after k d.0 d.1 from lt (sym (same_chain count e (d.0).node (d.0).state d.2.node d.2.state) ∙ in_chain));
    there = λ k at. (let p = last.there k at in let e = row_kept k p.1 p.2 in
        (p.0, e.0, e.1, same_chain count e.0 (p.1).node (p.1).state e.2.node e.2.state ∙ p.3));
  }

  module _ (count : ℕ) (first : List ℕ) (indexed : IsIndexed count old first) where
    next_still : n ≤ length old → IsLast count old (chain_in count x) n x.next
        → (k : ℕ) (e : Row) → slice_get new k ≡ Some e → IsLast count new (chain_in count e) k e.next
    next_still within next k e known = elim (row_cases k e known) [
      | inl here ↦ subst (λ j. IsLast count new (chain_in count e) j e.next) (sym here.0)
          (subst (λ (y : Row). IsLast count new (chain_in count y) n y.next) here.1 (last_still count (chain_in count x) n x.next within next))
      | inr there ↦ (let lt = slice_get_within old k e there.1 in
          last_still count (chain_in count e) k e.next (omega (arith, lt)) (indexed.next k e there.1))
    ]

    pub indexed_set : (e : Row) → slice_get old n ≡ Some e → x.next ≡ e.next → length new ≡ length old → IsIndexed count new first
    indexed_set e known link size = record {
      first_of = λ chain. rw size (last_still count chain (length old) (slice_index first chain) (omega arith) (indexed.first_of chain));
      next = (let lt = slice_get_within old n e known in let same = changes.place e known in next_still (omega (arith, lt))
          (rw (link, same_chain count x e.node e.state same.node same.state) (indexed.next n e known)));
    }

    pub indexed_push : (longer : List ℕ) → n ≡ length old → length new ≡ n + 1 → x.next ≡ slice_index first (chain_in count x)
        → slice_index longer (chain_in count x) ≡ n + 1 → ((b : ℕ) → b ≢ chain_in count x → slice_index longer b ≡ slice_index first b) → IsIndexed count new longer
    indexed_push longer end size link here others = record {
      first_of = first_of;
      next = next_still (omega (arith, end)) (rw (end, link) (indexed.first_of (chain_in count x)));
    } where
      first_of : (b : ℕ) → IsLast count new b (length new) (slice_index longer b)
      first_of b = elim (cases_eq b (chain_in count x)) [
        | inl same ↦ rw (same, here) (record {
          none_after = λ k e known from lt in_chain. omega (arith, size);
          there = λ k at. (let same_k : k ≡ n = omega arith in (omega (arith, size), x, ap (slice_get new) same_k ∙ changes.put.there, refl));
        })
        | inr other ↦ (let was = last_still count b (length old) (slice_index first b) (omega arith) (indexed.first_of b) in rw (others b other) (record {
          none_after = λ k e known from lt in_chain. elim (row_cases k e known) [
            | inl last ↦ other (sym in_chain ∙ sym (ap (chain_in count) last.1))
            | inr there ↦ was.none_after k e known from (slice_get_within old k e there.1) in_chain
          ];
          there = λ k at. (let p = was.there k at in (omega (arith, p.0, size, end), p.1, p.2, p.3));
        }))
      ]

-- ---- a way is taken

-- the way is added to those that were taken, and the row n, of v and q, is x by it
pub record TakesWay (old new : Frontier) (n v q : ℕ) (x : Row) (way : Reached) : Type 0 where
  pub base : new.base ≡ old.base
  pub until : new.until ≡ old.until
  pub changes : Changes (rows old) (rows new) n x
  pub node : x.node ≡ v
  pub state : x.state ≡ q
  pub added : ways new ≡ ways old ++ taken_as way n ∷ []
  pub last : x.way ≡ length (ways old)
  pub delay : x.delay ≡ way.delay
  pub soon : way.delay < 2 ^ 64 - 1
  pub few : length (rows new) < 2 ^ 32
  pub few_ways : length (ways old) + 1 < 2 ^ 32

module _ (old new : Frontier) (n v q : ℕ) (x : Row) (way : Reached) (takes : TakesWay old new n v q x way) where
  added_way : IsPut Taken (ways old) (ways new) (length (ways old)) (taken_as way n)
  added_way = rw takes.added (put_push Taken (ways old) (taken_as way n))

  way_stays : (k : ℕ) (w : Taken) → slice_get (ways old) k ≡ Some w → slice_get (ways new) k ≡ Some w
  way_stays k w is = let lt = slice_get_within (ways old) k w is in added_way.others k (λ e. omega (arith, lt, e)) ∙ is

  last_way : IsLastWay new n x (taken_as way n)
  last_way = record { known = ap (slice_get (ways new)) takes.last ∙ added_way.there; row = refl; delay = sym takes.delay }

  each_row : (P : ℕ → Row → Type 0) → P n x → ((k : ℕ) (r : Row) → slice_get (rows old) k ≡ Some r → P k r)
      → (k : ℕ) (r : Row) → slice_get (rows new) k ≡ Some r → P k r
  each_row P here there k r known = elim (row_cases (rows old) (rows new) n x takes.changes k r known) [
    | inl same ↦ subst (λ j. P j r) (sym same.0) (subst (λ y. P n y) same.1 here)
    | inr other ↦ there k r other.1
  ]

  more_ways : length (ways new) ≡ length (ways old) + 1
  more_ways = ap length takes.added ∙ length_push (ways old) (taken_as way n)

  pub reached_taken : IsReachedBy new v q (new.base + way.delay)
  reached_taken = record { number = n; row = x; known = takes.changes.put.there; node = takes.node; state = takes.state; by = omega (arith, takes.delay) }

  -- an item with the way waits
  module _ (puts : TakesIn old.queue new.queue way.delay (record { row = n; way = x.way })) where
    pub right_taken : IsFrontier old → IsIndexed new.chains.count (rows new) new.first.items → IsFrontier new
    right_taken right indexed = record {
      queue = puts.right;
      apart = apart_still (rows old) (rows new) n x takes.changes right.apart;
      indexed = indexed;
      last_ways = each_row (λ k r. (w : Taken) × IsLastWay new k r w) (taken_as way n, last_way)
          (λ k r known. (let w = right.last_ways k r known in (w.0, record { known = way_stays r.way w.0 w.1.known; row = w.1.row; delay = w.1.delay })));
      soon = each_row (λ k r. r.delay < 2 ^ 64 - 1) (rw takes.delay takes.soon) right.soon;
      few = takes.few;
      few_ways = omega (arith, more_ways, takes.few_ways);
    }

    pub offers_taken : Offers old new (IsGiven v q way)
    offers_taken = record {
      base = takes.base;
      until = takes.until;
      kept = row_kept (rows old) (rows new) n x takes.changes;
      changes = each_row (λ k r. (slice_get (rows old) k ≡ Some r) ⊎ Waits new k r) (inr (rw takes.delay puts.there)) (λ k r known. inl known);
      queued = puts.stays;
      stay = way_stays;
      taken = λ k w known. elim (put_cases Taken (ways old) (ways new) (length (ways old)) (taken_as way n) added_way k w known) [
        | inl here ↦ inr (subst (IsTakenAs new (IsGiven v q way)) here.1
            (x, takes.changes.put.there, record { node = takes.node; state = takes.state; as_given = refl; soon = takes.soon }))
        | inr there ↦ inl there.1
      ];
      count = omega (arith, more_ways, puts.more);
    }

-- ---- a search in a chain

-- the product state is not behind c, and c stands for a row of its chain
pub record IsSought (count : ℕ) (rs : List Row) (v q c : ℕ) : Type 0 where
  pub none_after : (k : ℕ) (r : Row) → slice_get rs k ≡ Some r → c ≤ k → r.node ≡ v → r.state ≡ q → ⊥
  pub there : (k : ℕ) → c ≡ suc k → (r : Row) × (slice_get rs k ≡ Some r) × (chain_in count r ≡ chain_of count v q)

pub sought_first : (count : ℕ) (rs : List Row) (first : List ℕ) → IsIndexed count rs first
    → (v q c : ℕ) → c ≡ slice_index first (chain_of count v q) → IsSought count rs v q c
sought_first count rs first indexed v q c is = rw is (let last = indexed.first_of (chain_of count v q) in record {
  none_after = λ k r known from node state. last.none_after k r known from (slice_get_within rs k r known) (same_chain count r v q node state);
  there = λ k at. (let p = last.there k at in (p.1, p.2, p.3));
})

pub sought_within : (count : ℕ) (rs : List Row) (v q c : ℕ) → c ≢ 0 → IsSought count rs v q c → c - 1 < length rs
sought_within count rs v q c some sought = let p = sought.there (c - 1) (omega (arith, some)) in slice_get_within rs (c - 1) p.0 p.1

module _ (f : Frontier) (right : IsFrontier f) (v q c : ℕ) (x : Row) (some : c ≢ 0) (sought : IsSought f.chains.count (rows f) v q c)
    (read : x ≡ get_or (rows f) (c - 1) x) where
  known : slice_get (rows f) (c - 1) ≡ Some x
  known = slice_get_read (rows f) (length (rows f)) (c - 1) x refl (sought_within f.chains.count (rows f) v q c some sought) read

  in_chain : chain_in f.chains.count x ≡ chain_of f.chains.count v q
  in_chain = let p = sought.there (c - 1) (omega (arith, some)) in
      ap (chain_in f.chains.count) (same_element Row (rows f) (c - 1) x p.0 known p.1) ∙ p.2

  pub sought_found : x.state ≡ q → IsAt (rows f) v q (c - 1)
  sought_found state = record {
    row = x;
    known = known;
    node = same_node f.chains.count x.node v q f.chains.some (ap (λ s. chain_of f.chains.count x.node s) (sym state) ∙ in_chain);
    state = state;
  }

  last_before : IsLast f.chains.count (rows f) (chain_of f.chains.count v q) (c - 1) x.next
  last_before = subst (λ b. IsLast f.chains.count (rows f) b (c - 1) x.next) in_chain (right.indexed.next (c - 1) x known)

  pub sought_next : (x.state ≡ q → ⊥) → IsSought f.chains.count (rows f) v q x.next
  sought_next differs = record {
    none_after = λ k r also from node state. elim (cases_eq k (c - 1)) [
      | inl same ↦ differs (ap (λ (y : Row). y.state) (same_element Row (rows f) (c - 1) x r known (ap (slice_get (rows f)) (sym same) ∙ also)) ∙ state)
      | inr other ↦ elim (cases_lt k (c - 1)) [
        | inl lt ↦ last_before.none_after k r also from lt (same_chain f.chains.count r v q node state)
        | inr ge ↦ sought.none_after k r also (omega (arith, ge, other)) node state
      ]
    ];
    there = λ k at. (let p = last_before.there k at in (p.1, p.2, p.3));
  }

  pub sought_smaller : x.next < c
  sought_smaller = go x.next refl where
    go : (m : ℕ) → x.next ≡ m → m < c
    go zero e = omega (arith, some)
    go (suc k) e = let p = (last_before.there k e).0 in omega (arith, p, some)

-- ---- the table is cleared

pub behind_next : (count : ℕ) (rs : List Row) (old new : List ℕ) (i : ℕ) (x : Row) → slice_get rs i ≡ Some x → HasChainsFrom count rs old i
    → slice_index new (chain_in count x) ≡ 0 → ((v : ℕ) → v ≢ chain_in count x → slice_index new v ≡ slice_index old v) → HasChainsFrom count rs new (i + 1)
behind_next count rs old new i x known behind here others v k is = elim (cases_eq v (chain_in count x)) [
  | inl same ↦ (let e : slice_index new (chain_in count x) ≡ suc k = ap (slice_index new) (sym same) ∙ is in absurd (omega (arith, e, here)))
  | inr other ↦ (let b = behind v k (sym (others v other) ∙ is) in elim (cases_eq b.0 i) [
    | inr later ↦ (b.0, omega (arith, b.1, later), b.2, b.3, b.4)
    | inl same ↦ absurd (other (sym b.4 ∙ ap (chain_in count) (same_element Row rs i b.2 x (ap (slice_get rs) (sym same) ∙ b.3) known)))
  ])
]

pub behind_all : (count : ℕ) (rs : List Row) (first : List ℕ) (i : ℕ) → length rs ≤ i → HasChainsFrom count rs first i → IsClear first
behind_all count rs first i all behind v = go (slice_index first v) refl where
  go : (m : ℕ) → slice_index first v ≡ m → slice_index first v ≡ 0
  go zero e = e
  go (suc k) e = let b = behind v k e in let lt = slice_get_within rs b.0 b.2 b.3 in absurd (omega (arith, b.1, lt, all))

-- ---- only the queue changes

same_left : (f : Frontier) (q : Queue) → IsSameBut f (record f { queue = q })
same_left f q = record { base = refl; until = refl; rows = refl; ways = refl }

right_left : (f : Frontier) (q : Queue) → IsFrontier f → IsQueue q → IsFrontier (record f { queue = q })
right_left f q right queue = record {
  queue = queue;
  apart = right.apart;
  indexed = right.indexed;
  last_ways = λ k r known. (let w = right.last_ways k r known in (w.0, record { known = w.1.known; row = w.1.row; delay = w.1.delay }));
  soon = right.soon;
  few = right.few;
  few_ways = right.few_ways;
}

same_then : (a b c : Frontier) → IsSameBut a b → IsSameBut b c → IsSameBut a c
same_then a b c first then = record {
  base = then.base ∙ first.base;
  until = then.until ∙ first.until;
  rows = then.rows ∙ first.rows;
  ways = then.ways ∙ first.ways;
}

-- what is known of a row is known still
known_then : (a b : Frontier) → IsSameBut a b → (k : ℕ) (r : Row) → slice_get (rows a) k ≡ Some r → slice_get (rows b) k ≡ Some r
known_then a b same k r known = ap (λ rs. slice_get rs k) same.rows ∙ known

-- ---- the queue is rearranged

pub rearranged : (a b c : Frontier) → Rearranges a b → Rearranges b c → Rearranges a c
rearranged a b c first then = record {
  same = same_then a b c first.same then.same;
  right = then.right;
  stay = λ k r known waits. then.stay k r (known_then a b first.same k r known) (first.stay k r known waits);
  no_more = omega (arith, first.no_more, then.no_more);
}

module _ (f : Frontier) (q : Queue) (right : IsFrontier f) (turns : Turns f.queue q f.until) where
  pub turned : Rearranges f (record f { queue = q })
  turned = record {
    same = same_left f q;
    right = right_left f q right turns.right;
    stay = λ k r known waits. turns.stays r.delay _ waits;
    no_more = omega (arith, turns.as_many);
  }

  pub turned_ready : IsReady (record f { queue = q })
  turned_ready none k r waits = turns.none none r.delay _ waits

-- where the lot in turn has some, nothing is to be done
pub rearranged_none : (f : Frontier) → IsFrontier f → (f.queue.current.items ≡ [] → ⊥) → Rearranges f f × IsReady f
rearranged_none f right some = (
  record { same = same_left f f.queue; right = right; stay = λ k r known waits. waits; no_more = omega arith },
  λ none. absurd (some none),
)

-- a lot is put in again, of which this is still left
pub record HasSpread (old new : Frontier) (lot : List Item) : Type 0 where
  pub same : IsSameBut old new
  pub right : IsFrontier new
  pub current : new.queue.current.items ≡ []
  pub stay : (k : ℕ) (r : Row) → slice_get (rows old) k ≡ Some r → Waits old k r → Contains lot (record { row = k; way = r.way }) ⊎ Waits new k r
  pub no_more : queue_len new.queue + length lot ≤ queue_len old.queue

pub spread_begins : (f : Frontier) (q : Queue) (lot : List Item) → IsFrontier f → Narrows f.queue q lot → HasSpread f (record f { queue = q }) lot
spread_begins f q lot right narrows = record {
  same = same_left f q;
  right = right_left f q right narrows.right;
  current = narrows.current;
  stay = λ k r known waits. narrows.stays r.delay _ waits;
  no_more = omega (arith, narrows.as_many);
}

pub spread_on : (old f new : Frontier) (lot left : List Item) (x : Item) → HasSpread old f lot → lot ≡ left ++ x ∷ [] → PutsAgain f new x → HasSpread old new left
spread_on old f new lot left x spread popped puts = record {
  same = same_then old f new spread.same puts.same;
  right = puts.right;
  current = ap (λ (v : Vec Item Global). v.items) puts.current ∙ spread.current;
  stay = λ k r known waits. elim (spread.stay k r known waits) [
    | inr still ↦ inr (puts.stay k r still)
    | inl has ↦ elim (Contains-push_cases left x (record { row = k; way = r.way }) (rw popped at has)) [
      | inl other ↦ inl other
      | inr is ↦ inr (subst (λ j. Waits new j r) (ap (λ (y : Item). y.row) is)
          (puts.there r (known_then old f spread.same x.row r (ap (slice_get (rows old)) (ap (λ (y : Item). y.row) is) ∙ known)) (sym (ap (λ (y : Item). y.way) is))))
    ]
  ];
  no_more = omega (arith, spread.no_more, puts.no_more, ap length popped, length_push left x);
}

pub spread_ends : (old f : Frontier) (lot : List Item) → lot ≡ [] → HasSpread old f lot → Rearranges old f
spread_ends old f lot none spread = record {
  same = spread.same;
  right = spread.right;
  stay = λ k r known waits. elim (spread.stay k r known waits) [
    | inl has ↦ absurd (omega (arith, has.1, ap length none))
    | inr still ↦ still
  ];
  no_more = omega (arith, spread.no_more);
}

-- x is put in again
pub put_again : (f : Frontier) (q : Queue) (x : Item) (r : Row) → IsFrontier f → slice_get (rows f) x.row ≡ Some r → r.way ≡ x.way
    → TakesIn f.queue q r.delay x → PutsAgain f (record f { queue = q }) x
put_again f q x r right known way puts = record {
  same = same_left f q;
  right = right_left f q right puts.right;
  current = puts.current;
  stay = λ k e waits. puts.stays e.delay _ waits;
  there = λ e also same. rw (same, same_element Row (rows f) x.row e r also known) puts.there;
  no_more = omega (arith, puts.more);
}

-- a stale one is not
pub stale_left : (f : Frontier) (x : Item) → IsFrontier f → ((r : Row) → slice_get (rows f) x.row ≡ Some r → r.way ≡ x.way → ⊥) → PutsAgain f f x
stale_left f x right stale = record {
  same = same_left f f.queue;
  right = right;
  current = refl;
  stay = λ k r waits. waits;
  there = λ r known way. absurd (stale r known way);
  no_more = omega arith;
}

-- ---- items are taken from the queue

-- an item is given out
module _ (old f : Frontier) (q : Queue) (keeps : Rearranges old f) (right : IsQueue q) where
  pub given_item : (x : Item) → Gives f.queue q x → GivesItem old (record f { queue = q }) x
  given_item x gives = record {
    same = same_then old f (record f { queue = q }) keeps.same (same_left f q);
    right = right_left f q keeps.right right;
    others = λ k r known waits. elim (gives.stays r.delay (record { row = k; way = r.way }) (keeps.stay k r known waits)) [
      | inl is ↦ inl (ap (λ (y : Item). y.row) is, ap (λ (y : Item). y.way) is)
      | inr stays ↦ inr stays
    ];
    fewer = omega (arith, gives.fewer, keeps.no_more);
  }

  pub given_none : (r : Option Item) → IsReady f → IfNone r (f.queue.current.items ≡ []) → IfNone r (TakesNone old (record f { queue = q }))
  given_none (Some x) ready some = tt
  given_none None ready none = record {
    same = same_then old f (record f { queue = q }) keeps.same (same_left f q);
    right = right_left f q keeps.right right;
    none = λ k r known waits. subst (λ u. u ≤ r.delay) keeps.same.until (ready none k r (keeps.stay k r known waits));
  }

-- items were taken from the queue, but none of those by which a row waits for a delay that is wanted
pub record HasDropped (old new : Frontier) : Type 0 where
  pub same : IsSameBut old new
  pub right : IsFrontier new
  pub others : (k : ℕ) (r : Row) → slice_get (rows old) k ≡ Some r → Waits old k r → Waits new k r ⊎ (old.until ≤ r.delay)
  pub fewer : queue_len new.queue ≤ queue_len old.queue

module _ (old f new : Frontier) (dropped : HasDropped old f) where
  module _ (x : Item) (gives : GivesItem f new x) where
    left : (k : ℕ) (r : Row) → slice_get (rows old) k ≡ Some r → Waits old k r → ((k ≡ x.row) × (r.way ≡ x.way)) ⊎ Waits new k r ⊎ (old.until ≤ r.delay)
    left k r known waits = elim (dropped.others k r known waits) [
      | inr late ↦ inr (inr late)
      | inl still ↦ elim (gives.others k r (known_then old f dropped.same k r known) still) [
        | inl is ↦ inl is
        | inr stays ↦ inr (inl stays)
      ]
    ]

    same_now : IsSameBut old new
    same_now = same_then old f new dropped.same gives.same

    pub drops_stale : IsPassedOver new x → HasDropped old new
    drops_stale passed = record {
      same = same_now;
      right = gives.right;
      others = λ k r known waits. elim (left k r known waits) [
        | inl is ↦ inr (subst (λ u. u ≤ r.delay) same_now.until (passed r (known_then old new same_now x.row r (ap (slice_get (rows old)) (sym is.0) ∙ known)) is.1))
        | inr rest ↦ rest
      ];
      fewer = omega (arith, gives.fewer, dropped.fewer);
    }

    pub takes_scan : (s : Scan) → IsScanOf new x s → Takes old new s
    takes_scan s is = record {
      same = same_now;
      right = gives.right;
      number = x.row;
      row = is.row;
      known = ap (λ rs. slice_get rs x.row) (sym same_now.rows) ∙ is.known;
      node = is.node;
      state = is.state;
      delay = is.delay;
      link = is.link;
      early = subst (λ u. s.delay < u) same_now.until is.early;
      others = λ k r known waits. elim (left k r known waits) [
        | inl here ↦ inl here.0
        | inr rest ↦ inr rest
      ];
      fewer = omega (arith, gives.fewer, dropped.fewer);
    }

  pub takes_none : TakesNone f new → TakesNone old new
  takes_none none = record {
    same = same_then old f new dropped.same none.same;
    right = none.right;
    none = λ k r known waits. elim (dropped.others k r known waits) [
      | inr late ↦ late
      | inl still ↦ subst (λ u. u ≤ r.delay) dropped.same.until (none.none k r (known_then old f dropped.same k r known) still)
    ];
  }
