-- Laws of what a search is given where it was given rides of the same runs before.
use Rattle.plan_base.proofs.Common.{◌≡◌, ℕ, ◌+◌, ◌≤◌, Bool, true, false, not, nat_eq, cond, Some, None, inl, inr, List, [], ◌∷◌, ◌++◌, map, zero, suc, refl, sym, ◌∙◌, ap, subst, append_assoc, arith, ◌⊎◌, ◌^◌, Option, All, Contains, IsBitSet, bit_and, false≢true, eqb-true, length-map, get_or-map, All-append, All-nil, All-cons, All-map, All-contains, All-contains_itself, All-weaker, Contains-append_left, Contains-append_right, Contains-append_cases}
use Rattle.search_laws.specs.{GraphMeaning, is_open, moving_letters, way_if, way_at, ways_from, GraphArc, Visit, Way, GivenRun, GivenRuns, IsRunNoted, IsAsGood, HasAsGood, RunRides, WasGiven, HasAsGoodOrGiven, AreFresh, AddsFresh, StandsStill, AreMoving, AddsMoving}

-- ---- as good

pub as_good_itself : (ways : List Way) (way : Way) → Contains ways way → HasAsGood ways way
as_good_itself ways way has = (way, has, record { arc = refl; soon = omega arith })

pub as_good_through : (ways : List Way) (x way : Way) → HasAsGood ways x → IsAsGood x way → HasAsGood ways way
as_good_through ways x way (y, has, good) next = (y, has, record { arc = good.arc ∙ next.arc; soon = omega (arith, good.soon, next.soon) })

pub as_good_left : (xs ys : List Way) (way : Way) → HasAsGood xs way → HasAsGood (xs ++ ys) way
as_good_left xs ys way (x, has, good) = (x, Contains-append_left xs ys x has, good)

pub as_good_right : (xs ys : List Way) (way : Way) → HasAsGood ys way → HasAsGood (xs ++ ys) way
as_good_right xs ys way (x, has, good) = (x, Contains-append_right xs ys x has, good)

-- ---- fresh ways

-- from what holds of each element
pub all_from : (P : Way → Type 0) (ways : List Way) → ((way : Way) → Contains ways way → P way) → All P ways
all_from P ways each = All-weaker (Contains ways) P each ways (All-contains_itself ways)

module _ (rides : RunRides) (state : ℕ) where
  -- all of them, where no run is noted
  pub fresh_all : (given : GivenRuns) (ways : List Way) → AreFresh rides state given given ways ways
  fresh_all given ways = record {
    are = All-contains_itself ways;
    rest = all_from (HasAsGoodOrGiven rides state given ways) ways (λ way has. inl (as_good_itself ways way has));
    noted = λ other way was. inl was;
  }

  -- none of them, where the state was given as good ones
  pub fresh_none : (given : GivenRuns) (ways : List Way) → ((way : Way) → Contains ways way → WasGiven rides given state way) → AreFresh rides state given given ways []
  fresh_none given ways was = record {
    are = All-nil (Contains ways);
    rest = all_from (HasAsGoodOrGiven rides state given []) ways (λ way has. inr (was way has));
    noted = λ other way known. inl known;
  }

  -- some of them, where the state was given as good ones for the others; of a run that is noted they have all rides, or the state was given as good ones
  pub fresh_noted : (old new : GivenRuns) (run : GivenRun) (ways fresh : List Way) → IsRunNoted old new run → run.state ≡ state → All (Contains ways) fresh
      → ((way : Way) → Contains ways way → HasAsGoodOrGiven rides state old fresh way)
      → ((way : Way) → Contains (rides run.line run.run run.call) way → HasAsGoodOrGiven rides state old fresh way)
      → AreFresh rides state old new ways fresh
  fresh_noted old new run ways fresh noted here are rest all = record {
    are = are;
    rest = all_from (HasAsGoodOrGiven rides state old fresh) ways rest;
    noted = λ other way was. elim (noted was.run was.known) [
      | inl known ↦ inl (record { run = was.run; known = known; to_state = was.to_state; as_good = was.as_good })
      | inr same ↦ (let (x, has, good) = subst (λ (r : GivenRun). HasAsGood (rides r.line r.run r.call) way) same was.as_good in
          let to : other ≡ state = sym was.to_state ∙ ap (λ (r : GivenRun). r.state) same ∙ here in
          elim (all x has) [
            | inl found ↦ inr (to, as_good_through fresh x way found good)
            | inr before ↦ inl (record { run = before.run; known = before.known; to_state = before.to_state ∙ sym to; as_good = as_good_through (rides before.run.line before.run.run before.run.call) x way before.as_good good })
          ])
    ];
  }

  -- of one list and then of another
  pub fresh_append : (old mid new : GivenRuns) (xs ys fresh more : List Way) → AreFresh rides state old mid xs fresh → AreFresh rides state mid new ys more
      → AreFresh rides state old new (xs ++ ys) (fresh ++ more)
  fresh_append old mid new xs ys fresh more first second = record {
    are = All-append (Contains (xs ++ ys)) fresh more
        (all_from (Contains (xs ++ ys)) fresh (λ way has. Contains-append_left xs ys way (All-contains (Contains xs) fresh way first.are has)))
        (all_from (Contains (xs ++ ys)) more (λ way has. Contains-append_right xs ys way (All-contains (Contains ys) more way second.are has)));
    rest = all_from (HasAsGoodOrGiven rides state old (fresh ++ more)) (xs ++ ys) (λ way has. elim (Contains-append_cases xs ys way has) [
      | inl here ↦ (elim (All-contains (HasAsGoodOrGiven rides state old fresh) xs way first.rest here) [
        | inl found ↦ inl (as_good_left fresh more way found)
        | inr was ↦ inr was
      ])
      | inr here ↦ (elim (All-contains (HasAsGoodOrGiven rides state mid more) ys way second.rest here) [
        | inl found ↦ inl (as_good_right fresh more way found)
        | inr was ↦ (elim (first.noted state way was) [
          | inl before ↦ inr before
          | inr found ↦ inl (as_good_left fresh more way found.1)
        ])
      ])
    ]);
    noted = λ other way was. elim (second.noted other way was) [
      | inl before ↦ (elim (first.noted other way before) [
        | inl long ↦ inl long
        | inr found ↦ inr (found.0, as_good_left fresh more way found.1)
      ])
      | inr found ↦ inr (found.0, as_good_right fresh more way found.1)
    ];
  }

  pub adds_all : (given : GivenRuns) (ways before after : List Way) → after ≡ before ++ ways → AddsFresh rides state given given ways before after
  adds_all given ways before after is = (ways, is, fresh_all given ways)

  pub adds_more : (old mid new : GivenRuns) (xs ys before between after : List Way) → AddsFresh rides state old mid xs before between → AddsFresh rides state mid new ys between after
      → AddsFresh rides state old new (xs ++ ys) before after
  adds_more old mid new xs ys before between after (fresh, first, are) (more, second, are_more) =
      (fresh ++ more, second ∙ ap (λ (ways : List Way). ways ++ more) first ∙ append_assoc before fresh more, fresh_append old mid new xs ys fresh more are are_more)

-- ---- those that move

module _ (v t leaving : ℕ) where
  pub moving_all : (ways : List Way) → AreMoving v t leaving ways ways
  moving_all ways = record {
    are = All-contains_itself ways;
    rest = all_from (λ way. Contains ways way ⊎ StandsStill v t leaving way) ways (λ way has. inl has);
  }

  moving_none : (ways : List Way) → All (StandsStill v t leaving) ways → AreMoving v t leaving ways []
  moving_none ways stand = record {
    are = All-nil (Contains ways);
    rest = All-weaker (StandsStill v t leaving) (λ way. Contains [] way ⊎ StandsStill v t leaving way) (λ way stands. inr stands) ways stand;
  }

  pub moving_append : (xs ys ms ns : List Way) → AreMoving v t leaving xs ms → AreMoving v t leaving ys ns → AreMoving v t leaving (xs ++ ys) (ms ++ ns)
  moving_append xs ys ms ns first second = record {
    are = All-append (Contains (xs ++ ys)) ms ns
        (All-weaker (Contains xs) (Contains (xs ++ ys)) (λ way has. Contains-append_left xs ys way has) ms first.are)
        (All-weaker (Contains ys) (Contains (xs ++ ys)) (λ way has. Contains-append_right xs ys way has) ns second.are);
    rest = All-append (λ way. Contains (ms ++ ns) way ⊎ StandsStill v t leaving way) xs ys
        (All-weaker (λ way. Contains ms way ⊎ StandsStill v t leaving way) (λ way. Contains (ms ++ ns) way ⊎ StandsStill v t leaving way)
        (λ way moves. elim moves [ inl has ↦ inl (Contains-append_left ms ns way has) | inr stands ↦ inr stands ]) xs first.rest)
        (All-weaker (λ way. Contains ns way ⊎ StandsStill v t leaving way) (λ way. Contains (ms ++ ns) way ⊎ StandsStill v t leaving way)
        (λ way moves. elim moves [ inl has ↦ inl (Contains-append_right ms ns way has) | inr stands ↦ inr stands ]) ys second.rest);
  }

  -- from a place on the arcs without a letter are those that move, where all others stand still
  module _ (g : GraphMeaning) (letters first : ℕ)
      (stand : (k at c : ℕ) → first ≤ k → g.arrive v k t ≡ Some at → (g.arc_at v k).letter ≡ Some c → StandsStill v t leaving (record { place = k; arc = g.arc_at v k; at = at }))
    where
      letterless_at : (k : ℕ) → first ≤ k → AreMoving v t leaving (way_at g v t letters k) (way_at g v t 0 k)
      letterless_at k from = by_letter (g.arc_at v k).letter refl where
        by_open : (b : Bool) (c : ℕ) (o : Option ℕ) → g.arrive v k t ≡ o → (g.arc_at v k).letter ≡ Some c → AreMoving v t leaving (cond b (way_if k (g.arc_at v k) o) []) []
        by_open false c o e is = moving_all []
        by_open true c None e is = moving_all []
        by_open true c (Some at) e is = moving_none (record { place = k; arc = g.arc_at v k; at = at } ∷ [])
            (All-cons (StandsStill v t leaving) (record { place = k; arc = g.arc_at v k; at = at }) [] (stand k at c from e is) (All-nil (StandsStill v t leaving)))

        ways : List Way
        ways = way_if k (g.arc_at v k) (g.arrive v k t)

        by_letter : (o : Option ℕ) → (g.arc_at v k).letter ≡ o → AreMoving v t leaving (cond (is_open letters o) ways []) (cond (is_open 0 o) ways [])
        by_letter None e = moving_all ways
        by_letter (Some c) e = by_open (is_open letters (Some c)) c (g.arrive v k t) refl e

      pub letterless : (i n : ℕ) → first ≤ i → AreMoving v t leaving (ways_from g v t letters i n) (ways_from g v t 0 i n)
      letterless i zero from = moving_all []
      letterless i (suc n) from =
          moving_append (way_at g v t letters i) (ways_from g v t letters (i + 1) n) (way_at g v t 0 i) (ways_from g v t 0 (i + 1) n)
          (letterless_at i from) (letterless (i + 1) n (omega (arith, from)))

-- all of them may be appended
pub adds_moving : (rides : RunRides) (visit : Visit) (old new : GivenRuns) (ways before after : List Way) → AddsFresh rides visit.state old new ways before after
    → AddsMoving rides visit old new ways before after
adds_moving rides visit old new ways before after adds = (ways, moving_all visit.node visit.at visit.leaving ways, adds)

-- a letter outside a set is no bit of it
pub closed_unset : (letters c : ℕ) → is_open letters (Some c) ≡ false → IsBitSet letters c → ⊥
closed_unset letters c closed set = go (nat_eq (bit_and letters (2 ^ c)) 0) refl where
  go : (b : Bool) → nat_eq (bit_and letters (2 ^ c)) 0 ≡ b → ⊥
  go true e = set (eqb-true (bit_and letters (2 ^ c)) 0 e)
  go false e = false≢true (sym closed ∙ ap not e)

-- where a letter is outside the set those of the other arcs need not be asked for, if they stand still
pub moving_asked : (g : GraphMeaning) (v t letters leaving first : ℕ) (letter : Option ℕ)
    → (is_open leaving letter ≡ false → (k at c : ℕ) → first ≤ k → g.arrive v k t ≡ Some at → (g.arc_at v k).letter ≡ Some c
    → StandsStill v t leaving (record { place = k; arc = g.arc_at v k; at = at }))
    → (i n : ℕ) → first ≤ i → AreMoving v t leaving (ways_from g v t letters i n) (ways_from g v t (moving_letters letters leaving letter) i n)
moving_asked g v t letters leaving first letter stand i n from = go (is_open leaving letter) refl where
  go : (b : Bool) → is_open leaving letter ≡ b → AreMoving v t leaving (ways_from g v t letters i n) (ways_from g v t (cond b letters 0) i n)
  go true e = moving_all v t leaving (ways_from g v t letters i n)
  go false e = letterless v t leaving g letters first (stand e) i n from

-- ---- the same ways elsewhere

-- what leads elsewhere, and arrives as before
pub record LeadsElsewhere (to : GraphArc → GraphArc) (f : Way → Way) : Type 0 where
  pub arc : (x : Way) → (f x).arc ≡ to x.arc
  pub at : (x : Way) → (f x).at ≡ x.at

-- the element of a list that one of the mapped list comes from
pub mapped_from : (f : Way → Way) (ways : List Way) (y : Way) → Contains (map f ways) y → (x : Way) × Contains ways x × (f x ≡ y)
mapped_from f [] y (k, lt, is) = absurd (omega (arith, lt))
mapped_from f (x ∷ ways) y (zero, lt, is) = (x, (0, omega arith, refl), is)
mapped_from f (x ∷ ways) y (suc k, lt, is) =
    let (w, (j, within, at), same) = mapped_from f ways y (k, omega (arith, lt), is) in
    (w, (suc j, omega (arith, within), at), same)

pub mapped_to : (f : Way → Way) (ways : List Way) (x : Way) → Contains ways x → Contains (map f ways) (f x)
mapped_to f ways x (k, within, is) = (k, omega (arith, within, length-map ways f), get_or-map f ways k x (f x) within ∙ ap f is)

module _ (to : GraphArc → GraphArc) (f h : Way → Way) (by_f : LeadsElsewhere to f) (by_h : LeadsElsewhere to h) where
  good_elsewhere : (x way : Way) → IsAsGood x way → IsAsGood (f x) (h way)
  good_elsewhere x way good = record {
    arc = by_f.arc x ∙ ap to good.arc ∙ sym (by_h.arc way);
    soon = omega (arith, by_f.at x, by_h.at way, good.soon);
  }

  as_good_elsewhere : (ways : List Way) (way : Way) → HasAsGood ways way → HasAsGood (map f ways) (h way)
  as_good_elsewhere ways way (x, has, good) = (f x, mapped_to f ways x has, good_elsewhere x way good)

-- the rides, and the fresh ways, lead elsewhere
module _ (to : GraphArc → GraphArc) (f h : Way → Way) (by_f : LeadsElsewhere to f) (by_h : LeadsElsewhere to h) (rides : RunRides) where
  abbrev pub rides_elsewhere : RunRides
  rides_elsewhere line run call = map h (rides line run call)

  given_elsewhere : (given : GivenRuns) (state : ℕ) (way : Way) → WasGiven rides given state way → WasGiven rides_elsewhere given state (f way)
  given_elsewhere given state way was = record {
    run = was.run;
    known = was.known;
    to_state = was.to_state;
    as_good = as_good_elsewhere to h f by_h by_f (rides was.run.line was.run.run was.run.call) way was.as_good;
  }

  pub fresh_elsewhere : (state : ℕ) (old new : GivenRuns) (ways fresh : List Way) → AreFresh rides state old new ways fresh → AreFresh rides_elsewhere state old new (map f ways) (map f fresh)
  fresh_elsewhere state old new ways fresh are = record {
    are = All-map (Contains (map f ways)) f fresh (all_from (λ way. Contains (map f ways) (f way)) fresh (λ way has. mapped_to f ways way (All-contains (Contains ways) fresh way are.are has)));
    rest = All-map (HasAsGoodOrGiven rides_elsewhere state old (map f fresh)) f ways (all_from (λ way. HasAsGoodOrGiven rides_elsewhere state old (map f fresh) (f way)) ways (λ way has.
        elim (All-contains (HasAsGoodOrGiven rides state old fresh) ways way are.rest has) [
          | inl found ↦ inl (as_good_elsewhere to f f by_f by_f fresh way found)
          | inr was ↦ inr (given_elsewhere old state way was)
        ]));
    noted = λ other way was.
        let (y, has, good) = was.as_good in
        let (x, there, same) = mapped_from h (rides was.run.line was.run.run was.run.call) y has in
        let good_x : IsAsGood (h x) way = subst (λ (z : Way). IsAsGood z way) (sym same) good in
        elim (are.noted other x (record { run = was.run; known = was.known; to_state = was.to_state; as_good = as_good_itself (rides was.run.line was.run.run was.run.call) x there })) [
          | inl before ↦ inl (record {
            run = before.run;
            known = before.known;
            to_state = before.to_state;
            as_good = as_good_through (rides_elsewhere before.run.line before.run.run before.run.call) (h x) way
                (as_good_elsewhere to h h by_h by_h (rides before.run.line before.run.run before.run.call) x before.as_good) good_x;
          })
          | inr found ↦ inr (found.0, as_good_through (map f fresh) (h x) way (as_good_elsewhere to f h by_f by_h fresh x found.1) good_x)
        ];
  }
