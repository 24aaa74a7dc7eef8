-- The buckets of a queue, and what moves between them.
use Rattle.plan_base.proofs.Common.{◌≡◌, ◌≢◌, ℕ, ◌+◌, ◌-◌, ◌*◌, ◌^◌, ◌<◌, ◌≤◌, ◌⊎◌, inl, inr, Option, Some, None, IfSome, Result, Ok, Err, OnOk, List, [], ◌∷◌, ◌++◌, length, get_or, set, map, zero, suc, refl, sym, ◌∙◌, ap, subst, arith, Vec, Contains, swap_remove, IsPermutation, min, cases_lt, cases_eq, length-set, length-append, nil_from_length, All-contains, All-push, All-same, Contains-append_left, Contains-push, Contains-push_cases, Contains-permutation, length_permutation, sum_by-set, sum_by_push, pow_pos, mul-le-mul_left, option_to_list, Global}
use Rattle.std.proofs.lemmas.List.Sorted.{IsPermutation-swap_remove}
use Rattle.product_search.specs.{declared.queue.Item.Item, declared.queue.LateItem.LateItem, declared.queue.Queue.Queue, inside.bucket_of, inside.bucketed_len, inside.begin_at, inside.begin_of, inside.IsLater, inside.AreBuckets, inside.IsPast, inside.IsQueue, inside.IsEmptyQueue, inside.TakesIn, inside.Gives, inside.PutsAt, inside.PutsLater, inside.Moves, inside.Turns, inside.Narrows, inside.Queued.Queued}

-- ---- lists of buckets

pub bucket-push : (bs : List (Vec Item Global)) (b : Vec Item Global) (k : ℕ) → b.items ≡ [] → bucket_of (bs ++ b ∷ []) k ≡ bucket_of bs k
bucket-push [] b zero none = none
bucket-push [] b (suc k) none = refl
bucket-push (a ∷ bs) b zero none = refl
bucket-push (a ∷ bs) b (suc k) none = bucket-push bs b k none

pub bucket-set_same : (bs : List (Vec Item Global)) (k : ℕ) (b : Vec Item Global) → k < length bs → bucket_of (set bs k b) k ≡ b.items
bucket-set_same [] k b lt = absurd (omega (arith, lt))
bucket-set_same (a ∷ bs) zero b lt = refl
bucket-set_same (a ∷ bs) (suc k) b lt = bucket-set_same bs k b (omega (arith, lt))

pub bucket-set_other : (bs : List (Vec Item Global)) (i k : ℕ) (b : Vec Item Global) → k ≢ i → bucket_of (set bs i b) k ≡ bucket_of bs k
bucket-set_other [] i k b other = refl
bucket-set_other (a ∷ bs) zero zero b other = absurd (other refl)
bucket-set_other (a ∷ bs) zero (suc k) b other = refl
bucket-set_other (a ∷ bs) (suc i) zero b other = refl
bucket-set_other (a ∷ bs) (suc i) (suc k) b other = bucket-set_other bs i k b (λ e. other (ap suc e))

pub bucket-get_or : (bs : List (Vec Item Global)) (k : ℕ) (d : Vec Item Global) → k < length bs → bucket_of bs k ≡ (get_or bs k d).items
bucket-get_or [] k d lt = absurd (omega (arith, lt))
bucket-get_or (a ∷ bs) zero d lt = refl
bucket-get_or (a ∷ bs) (suc k) d lt = bucket-get_or bs k d (omega (arith, lt))

pub bucket_past : (bs : List (Vec Item Global)) (k : ℕ) → length bs ≤ k → bucket_of bs k ≡ []
bucket_past [] k past = refl
bucket_past (a ∷ bs) zero past = absurd (omega (arith, past))
bucket_past (a ∷ bs) (suc k) past = bucket_past bs k (omega (arith, past))

-- ---- when buckets begin

pub begins : (start bits delay n : ℕ) → n * 2 ^ bits ≤ delay - start → begin_at start bits n ≤ delay
begins start bits delay zero within = omega arith
begins start bits delay (suc k) within = omega (arith, within, pow_pos bits)

begin-le : (start bits j k : ℕ) → j ≤ k → begin_at start bits j ≤ begin_at start bits k
begin-le start bits zero k le = omega arith
begin-le start bits (suc j) zero le = absurd (omega (arith, le))
begin-le start bits (suc j) (suc k) le = omega (arith, mul-le-mul_left (2 ^ bits) le)

pub bucketed-push : (bs : List (Vec Item Global)) (b : Vec Item Global) → b.items ≡ [] → bucketed_len (bs ++ b ∷ []) ≡ bucketed_len bs
bucketed-push bs b none = omega (arith, sum_by_push (λ (b : Vec Item Global). length b.items) bs b, ap length none)

bucketed-set : (bs : List (Vec Item Global)) (k : ℕ) (b : Vec Item Global) → k < length bs
    → bucketed_len (set bs k b) + length (bucket_of bs k) ≡ bucketed_len bs + length b.items
bucketed-set bs k b lt = omega (arith, sum_by-set (λ (b : Vec Item Global). length b.items) bs k b b lt, ap length (bucket-get_or bs k b lt))

-- ---- an item is put into a bucket

module _ (old : Queue) (right : AreBuckets old) (bs : List (Vec Item Global)) (grown : (k : ℕ) → bucket_of bs k ≡ bucket_of old.buckets.items k)
    (place : ℕ) (within : place < length bs) (b : Vec Item Global) (x : Item) (pushed : b.items ≡ bucket_of bs place ++ x ∷ [])
    (buckets : Vec (Vec Item Global) Global) (set_there : buckets.items ≡ set bs place b) where
  put_there : bucket_of buckets.items place ≡ bucket_of old.buckets.items place ++ x ∷ []
  put_there = ap (λ vs. bucket_of vs place) set_there ∙ bucket-set_same bs place b within ∙ pushed ∙ ap (λ xs. xs ++ x ∷ []) (grown place)

  put_elsewhere : (k : ℕ) → k ≢ place → bucket_of buckets.items k ≡ bucket_of old.buckets.items k
  put_elsewhere k other = ap (λ vs. bucket_of vs k) set_there ∙ bucket-set_other bs place k b other ∙ grown k

  put_stays : (k : ℕ) (y : Item) → Contains (bucket_of old.buckets.items k) y → Contains (bucket_of buckets.items k) y
  put_stays k y has = elim (cases_eq k place) [
    | inl same ↦ subst (λ j. Contains (bucket_of buckets.items j) y) (sym same) (rw put_there
        (Contains-append_left (bucket_of old.buckets.items place) (x ∷ []) y (subst (λ j. Contains (bucket_of old.buckets.items j) y) same has)))
    | inr other ↦ rw (put_elsewhere k other) has
  ]

  pub put : bucketed_len bs ≡ bucketed_len old.buckets.items → length bs ≤ 2 ^ 10 → (t : ℕ) → t ≡ min old.turn place
      → PutsAt old (record old { buckets = buckets; turn = t }) place x
  put as_many few t turn = record {
    right = record {
      narrow = right.narrow;
      narrow_next = right.narrow_next;
      few = rw set_there (omega (arith, length-set bs place b, few));
      in_round = omega (arith, right.in_round, turn);
      passed = λ k lt. put_elsewhere k (omega (arith, lt, turn)) ∙ right.passed k (omega (arith, lt, turn));
    };
    start = refl;
    bits = refl;
    current = refl;
    later = refl;
    stays = λ u y q. elim q [
      | inl now ↦ inl (now.0, omega (arith, begin-le old.start old.bits t old.turn (omega (arith, turn)), now.1))
      | inr (inl there) ↦ inr (inl (there.0, put_stays there.0 y there.1, there.2))
      | inr (inr later) ↦ inr (inr later)
    ];
    there = λ u le. inr (inl (place, rw put_there (Contains-push (bucket_of old.buckets.items place) x), le));
    more = omega (arith, as_many, ap bucketed_len set_there, bucketed-set bs place b within, ap length pushed, length-append (bucket_of bs place) (x ∷ []));
  }

-- ---- an item is taken in

-- the buckets are right, whatever the bucket in turn and the later ones have
still_right : (q : Queue) (current : Vec Item Global) (later : Vec LateItem Global) → AreBuckets q → AreBuckets (record q { current = current; later = later })
still_right q current later right =
    record { narrow = right.narrow; narrow_next = right.narrow_next; few = right.few; in_round = right.in_round; passed = right.passed }

pub taken_in : {E : Type 0} (old new : Queue) (place delay : ℕ) (x : Item) (r : Result (Unit {0}) E) → IsQueue old → begin_of old place ≤ delay
    → OnOk r (PutsAt old new place x) → OnOk r (TakesIn old new delay x)
taken_in old new place delay x (Err e) right begin put = tt
taken_in old new place delay x (Ok ok) right begin put = record {
  right = record { right = put.right; later = rw (put.later, put.start, put.bits) right.later };
  current = put.current;
  stays = put.stays;
  there = put.there delay begin;
  more = put.more;
}

pub taken_later : (old : Queue) (x : LateItem) (later : Vec LateItem Global) → IsQueue old → IsPast old x → later.items ≡ old.later.items ++ x ∷ []
    → TakesIn old (record old { later = later }) x.delay x.item
taken_later old x later right past pushed = record {
  right = record {
    right = still_right old old.current later right.right;
    later = All-same (IsPast old) later.items _ pushed (All-push (IsPast old) old.later.items x right.later past);
  };
  current = refl;
  stays = λ u y q. elim q [
    | inl now ↦ inl now
    | inr (inl there) ↦ inr (inl there)
    | inr (inr late) ↦ inr (inr (late.0, rw pushed (Contains-append_left old.later.items (x ∷ []) _ late.1), late.2))
  ];
  there = inr (inr (x.delay, rw pushed (Contains-push old.later.items x), omega arith));
  more = omega (arith, ap length pushed, length-append old.later.items (x ∷ []));
}

-- ---- nothing but later ones

pub all_passed : (q : Queue) → AreBuckets q → length q.buckets.items ≤ q.turn → (k : ℕ) → bucket_of q.buckets.items k ≡ []
all_passed q right past k = elim (cases_lt k q.turn) [
  | inl lt ↦ right.passed k lt
  | inr ge ↦ bucket_past q.buckets.items k (omega (arith, past, ge))
]

none_of_none : {X : Type 0} (xs : List X) (x : X) → xs ≡ [] → Contains xs x → ⊥
none_of_none xs x none has = omega (arith, has.1, ap length none)

only_later : (q : Queue) → q.current.items ≡ [] → ((k : ℕ) → bucket_of q.buckets.items k ≡ []) → (u : ℕ) (y : Item) → Queued q u y → IsLater q u y
only_later q none empty u y queued = elim queued [
  | inl now ↦ absurd (none_of_none q.current.items y none now.0)
  | inr (inl there) ↦ absurd (none_of_none (bucket_of q.buckets.items there.0) y (empty there.0) there.1)
  | inr (inr later) ↦ later
]

pub none_queued : (q : Queue) → q.current.items ≡ [] → ((k : ℕ) → bucket_of q.buckets.items k ≡ []) → q.later.items ≡ [] → IsEmptyQueue q
none_queued q none empty no_later u y queued = let late = only_later q none empty u y queued in none_of_none q.later.items _ no_later late.1

-- none is later than the begin of the round
pub none_begins : (q : Queue) → IsQueue q → q.current.items ≡ [] → ((k : ℕ) → bucket_of q.buckets.items k ≡ []) → (y : Item) → Queued q q.start y → ⊥
none_begins q right none empty y queued =
    let late = only_later q none empty q.start y queued in
    let past = All-contains (IsPast q) q.later.items (record { delay = late.0; item = y }) right.later late.1 in
    omega (arith, past, late.2, pow_pos q.bits)

-- ---- a later item goes into a bucket

contains_cases : {X : Type 0} (x : X) (xs : List X) (y : X) → Contains (x ∷ xs) y → (x ≡ y) ⊎ Contains xs y
contains_cases x xs y (zero, lt, is) = inl is
contains_cases x xs y (suc k, lt, is) = inr (k, omega (arith, lt), is)

pub due : (old q new : Queue) (late : LateItem) (i place : ℕ) (later : Vec LateItem Global) → i < length q.later.items → late ≡ get_or q.later.items i late
    → later.items ≡ swap_remove q.later.items i late → begin_of q place ≤ late.delay → Moves old q
    → PutsAt (record q { later = later }) new place late.item → Moves old new
due old q new late i place later lt at removed begin moves put = record {
  current = ap (λ (v : Vec Item Global). v.items) put.current ∙ moves.current;
  stays = λ u y queued. elim (moves.stays u y queued) [
    | inl now ↦ put.stays u y (inl now)
    | inr (inl there) ↦ put.stays u y (inr (inl there))
    | inr (inr (d, has, le)) ↦ elim (contains_cases late later.items (record { delay = d; item = y })
        (rw removed (Contains-permutation q.later.items (late ∷ swap_remove q.later.items i late) (record { delay = d; item = y }) shuffled has))) [
          | inl is ↦ subst (λ x. Queued new u x) (ap (λ (x : LateItem). x.item) is) (put.there u (omega (arith, begin, le, ap (λ (x : LateItem). x.delay) is)))
          | inr rest ↦ put.stays u y (inr (inr (d, rest, le)))
        ]
  ];
  as_many = omega (arith, put.more, moves.as_many, length_permutation q.later.items _ shuffled, ap length removed);
} where
  shuffled : IsPermutation q.later.items (late ∷ swap_remove q.later.items i late)
  shuffled = IsPermutation-swap_remove q.later.items i late lt at

-- ---- the turn goes on

-- the turn passes over a bucket that has none
pub passed_over : (q : Queue) (t : ℕ) → IsQueue q → q.current.items ≡ [] → q.turn < length q.buckets.items → bucket_of q.buckets.items q.turn ≡ [] → t ≡ q.turn + 1
    → IsQueue (record q { turn = t }) × Moves q (record q { turn = t })
passed_over q t right none lt empty next = (
  record {
    right = record {
      narrow = right.right.narrow;
      narrow_next = right.right.narrow_next;
      few = right.right.few;
      in_round = omega (arith, next, lt, right.right.few);
      passed = λ k before. elim (cases_eq k q.turn) [
        | inl same ↦ subst (λ j. bucket_of q.buckets.items j ≡ []) (sym same) empty
        | inr other ↦ right.right.passed k (omega (arith, before, next, other))
      ];
    };
    later = right.later;
  },
  record {
    current = refl;
    stays = λ u y queued. elim queued [
      | inl now ↦ absurd (none_of_none q.current.items y none now.0)
      | inr (inl there) ↦ inr (inl there)
      | inr (inr later) ↦ inr (inr later)
    ];
    as_many = refl;
  },
)

pub moved_on : (a b c : Queue) → Moves a b → Moves b c → Moves a c
moved_on a b c first then = record {
  current = then.current ∙ first.current;
  stays = λ u y queued. then.stays u y (first.stays u y queued);
  as_many = then.as_many ∙ first.as_many;
}

-- the bucket in turn is taken
module _ (old q : Queue) (right : IsQueue q) (moves : Moves old q) (none : q.current.items ≡ []) (until : ℕ) where
  pub taken : (b : Vec Item Global) (buckets : Vec (Vec Item Global) Global) → q.turn < length q.buckets.items → b ≡ get_or q.buckets.items q.turn b
      → buckets.items ≡ set q.buckets.items q.turn q.current → bucket_of q.buckets.items q.turn ≢ [] → Turns old (record q { current = b; buckets = buckets }) until
  taken b buckets lt is set_there some = record {
    right = record {
      right = record {
        narrow = right.right.narrow;
        narrow_next = right.right.narrow_next;
        few = rw set_there (omega (arith, length-set q.buckets.items q.turn q.current, right.right.few));
        in_round = right.right.in_round;
        passed = λ k before. elsewhere k (omega (arith, before)) ∙ right.right.passed k before;
      };
      later = right.later;
    };
    stays = λ u y queued. elim (moves.stays u y queued) [
      | inl now ↦ absurd (none_of_none q.current.items y none now.0)
      | inr (inl (k, has, le)) ↦ elim (cases_eq k q.turn) [
        | inl same ↦ inl (subst (λ xs. Contains xs y) here (subst (λ j. Contains (bucket_of q.buckets.items j) y) same has), subst (λ j. begin_of q j ≤ u) same le)
        | inr other ↦ inr (inl (k, rw (elsewhere k other) has, le))
      ]
      | inr (inr later) ↦ inr (inr later)
    ];
    as_many = omega (arith, moves.as_many, bucketed-set q.buckets.items q.turn q.current lt, ap bucketed_len set_there, ap length here);
    none = λ taken_none. absurd (some (here ∙ taken_none));
  } where
    here : bucket_of q.buckets.items q.turn ≡ b.items
    here = bucket-get_or q.buckets.items q.turn b lt ∙ ap (λ (v : Vec Item Global). v.items) (sym is)

    elsewhere : (k : ℕ) → k ≢ q.turn → bucket_of buckets.items k ≡ bucket_of q.buckets.items k
    elsewhere k other = ap (λ vs. bucket_of vs k) set_there ∙ bucket-set_other q.buckets.items q.turn k q.current other

  -- in whatever order
  pub taken_round : (b : Vec Item Global) (buckets : Vec (Vec Item Global) Global) (current : Vec Item Global) → IsPermutation b.items current.items
      → Turns old (record q { current = b; buckets = buckets }) until → Turns old (record q { current = current; buckets = buckets }) until
  taken_round b buckets current same turns = record {
    right = record { right = still_right (record q { current = b; buckets = buckets }) current q.later turns.right.right; later = turns.right.later };
    stays = λ u y queued. elim (turns.stays u y queued) [
      | inl now ↦ inl (Contains-permutation b.items current.items y same now.0, now.1)
      | inr other ↦ inr other
    ];
    as_many = omega (arith, turns.as_many, length_permutation b.items current.items same);
    none = λ e u y queued. turns.none (nil_from_length b.items (omega (arith, length_permutation b.items current.items same, ap length e))) u y
        (elim queued [ inl now ↦ absurd (none_of_none current.items y e now.0) | inr other ↦ inr other ]);
  }

  pub not_taken : ((u : ℕ) (y : Item) → Queued q u y → until ≤ u) → Turns old q until
  not_taken late = record { right = right; stays = moves.stays; as_many = moves.as_many; none = λ e. late }

-- a lot is counted
pub counted : (old q : Queue) (lots : ℕ) → IsQueue q → Moves old q → IsQueue (record q { lots = lots }) × Moves old (record q { lots = lots })
counted old q lots right moves = (
  record {
    right = record {
      narrow = right.right.narrow;
      narrow_next = right.right.narrow_next;
      few = right.right.few;
      in_round = right.right.in_round;
      passed = right.right.passed;
    };
    later = right.later;
  },
  record { current = moves.current; stays = moves.stays; as_many = moves.as_many },
)

-- ---- an item is given out

module _ (old : Queue) (current : Vec Item Global) (right : IsQueue old) where
  pub given_right : IsQueue (record old { current = current })
  given_right = record { right = still_right old current old.later right.right; later = right.later }

  pub given : (r : Option Item) → old.current.items ≡ current.items ++ option_to_list r → IfSome r (Gives old (record old { current = current }))
  given None was = tt
  given (Some x) was = record {
    stays = λ u y queued. elim queued [
      | inl now ↦ elim (Contains-push_cases current.items x y (rw was at now.0)) [
        | inl left ↦ inr (inl (left, now.1))
        | inr is ↦ inl (sym is)
      ]
      | inr (inl there) ↦ inr (inr (inl there))
      | inr (inr later) ↦ inr (inr (inr later))
    ];
    fewer = omega (arith, ap length was, length-append current.items (x ∷ []));
  }

-- ---- buckets are put off

pub puts_one : (d : ℕ) (bucket left rest : List Item) (old later now : List LateItem) (x : Item) → left ≡ rest ++ x ∷ []
    → now ≡ later ++ record { delay = d; item = x } ∷ [] → PutsLater d bucket left old later → PutsLater d bucket rest old now
puts_one d bucket left rest old later now x popped pushed puts = record {
  stays = λ y has. goes y (puts.stays y has);
  there = λ y has. elim (puts.there y has) [
    | inr gone ↦ inr (goes _ gone)
    | inl still ↦ elim (Contains-push_cases rest x y (rw popped at still)) [
      | inl other ↦ inl other
      | inr is ↦ inr (subst (λ z. Contains now (record { delay = d; item = z })) is (rw pushed (Contains-push later _)))
    ]
  ];
  as_many = omega (arith, puts.as_many, ap length popped, ap length pushed, length-append rest (x ∷ []), length-append later (record { delay = d; item = x } ∷ []));
} where
  goes : (y : LateItem) → Contains later y → Contains now y
  goes y has = rw pushed (Contains-append_left later _ y has)

-- the first n buckets are put off
pub record HasPutOff (old new : Queue) (n : ℕ) : Type 0 where
  pub right : AreBuckets new
  pub moves : Moves old new
  pub none : (k : ℕ) → k < n → bucket_of new.buckets.items k ≡ []
  pub size : length new.buckets.items ≡ length old.buckets.items

-- the next one is
module _ (old q : Queue) (n d : ℕ) (done : HasPutOff old q n) (within : n < length q.buckets.items) (begins : d ≤ begin_of q n) (b : Vec Item Global) (none : b.items ≡ [])
    (buckets : Vec (Vec Item Global) Global) (set_there : buckets.items ≡ set q.buckets.items n b) (later : Vec LateItem Global)
    (puts : PutsLater d (bucket_of q.buckets.items n) b.items q.later.items later.items) where
  emptied : (k : ℕ) → (k ≡ n) ⊎ (bucket_of q.buckets.items k ≡ []) → bucket_of buckets.items k ≡ []
  emptied k is = elim (cases_eq k n) [
    | inl same ↦ ap (λ vs. bucket_of vs k) set_there ∙ ap (bucket_of (set q.buckets.items n b)) same ∙ bucket-set_same q.buckets.items n b within ∙ none
    | inr other ↦ elim is [
      | inl same ↦ absurd (other same)
      | inr was ↦ ap (λ vs. bucket_of vs k) set_there ∙ bucket-set_other q.buckets.items n k b other ∙ was
    ]
  ]

  pub puts_off : HasPutOff old (record q { buckets = buckets; later = later }) (n + 1)
  puts_off = record {
    right = record {
      narrow = done.right.narrow;
      narrow_next = done.right.narrow_next;
      few = rw set_there (omega (arith, length-set q.buckets.items n b, done.right.few));
      in_round = done.right.in_round;
      passed = λ k lt. emptied k (inr (done.right.passed k lt));
    };
    moves = record {
      current = done.moves.current;
      stays = λ u y queued. elim (done.moves.stays u y queued) [
        | inl now ↦ inl now
        | inr (inl (k, has, le)) ↦ elim (cases_eq k n) [
          | inl same ↦ elim (puts.there y (subst (λ j. Contains (bucket_of q.buckets.items j) y) same has)) [
            | inl left ↦ absurd (none_of_none b.items y none left)
            | inr gone ↦ inr (inr (d, gone, omega (arith, begins, subst (λ j. begin_of q j ≤ u) same le)))
          ]
          | inr other ↦ inr (inl (k, rw (set_there, bucket-set_other q.buckets.items n k b other) has, le))
        ]
        | inr (inr (e, has, le)) ↦ inr (inr (e, puts.stays _ has, le))
      ];
      as_many = omega (arith, done.moves.as_many, puts.as_many, ap bucketed_len set_there, bucketed-set q.buckets.items n b within, ap length none);
    };
    none = λ k lt. emptied k (elim (cases_eq k n) [ inl same ↦ inl same | inr other ↦ inr (done.none k (omega (arith, lt, other))) ]);
    size = omega (arith, ap length set_there, length-set q.buckets.items n b, done.size);
  }

pub put_off_all : (old q : Queue) (n : ℕ) → HasPutOff old q n → length old.buckets.items ≤ n → (k : ℕ) → bucket_of q.buckets.items k ≡ []
put_off_all old q n done all k = elim (cases_lt k n) [
  | inl lt ↦ done.none k lt
  | inr ge ↦ bucket_past q.buckets.items k (omega (arith, done.size, all, ge))
]

-- ---- narrower buckets begin a round

pub narrowed : (old q new : Queue) (current : Vec Item Global) (lot : List Item) (start bits : ℕ) → current.items ≡ [] → lot ≡ old.current.items
    → Moves (record old { current = current }) q → ((k : ℕ) → bucket_of q.buckets.items k ≡ []) → IsQueue new
    → Moves (record q { start = start; turn = 0; bits = bits; next_bits = bits; lots = 0 }) new → Narrows old new lot
narrowed old q new current lot start bits none is off empty right moves = record {
  right = right;
  current = moves.current ∙ off.current ∙ none;
  stays = λ u y queued. elim queued [
    | inl now ↦ inl (rw is now.0)
    | inr rest ↦ inr (moves.stays u y (inr (inr (only_later q (off.current ∙ none) empty u y (off.stays u y (inr rest))))))
  ];
  as_many = omega (arith, moves.as_many, off.as_many, ap length none, ap length is);
}

-- ---- a round begins

least_of : (xs : List LateItem) (t : ℕ) → Contains (map (λ x. x.delay) xs) t → (x : LateItem) × Contains xs x × (x.delay ≡ t)
least_of [] t (k, lt, is) = absurd (omega (arith, lt))
least_of (x ∷ xs) t (zero, lt, is) = (x, (zero, omega arith, refl), is)
least_of (x ∷ xs) t (suc k, lt, is) = let (y, (j, within, at), same) = least_of xs t (k, omega (arith, lt), is) in (y, (suc j, omega (arith, within), at), same)

module _ (old new : Queue) (start turn : ℕ) (none : old.current.items ≡ []) (empty : (k : ℕ) → bucket_of old.buckets.items k ≡ [])
    (moves : Moves (record old { start = start; bits = old.next_bits; turn = turn }) new) where
  pub round_moves : (bits : ℕ) → Moves old (record new { next_bits = bits })
  round_moves bits = record {
    current = moves.current;
    stays = λ u y queued. moves.stays u y (inr (inr (only_later old none empty u y queued)));
    as_many = moves.as_many;
  }

  pub round_begins : Contains (map (λ (x : LateItem). x.delay) old.later.items) start → new.start ≡ start → (x : Item) × Queued new new.start x
  round_begins has same =
      let (x, there, delay) = least_of old.later.items start has in
      (x.item, moves.stays new.start x.item (inr (inr (x.delay, there, omega (arith, delay, same)))))
