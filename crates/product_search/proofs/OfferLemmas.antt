-- What offers keep and what they add, over single offers and over many.
use Rattle.plan_base.proofs.Common.{◌≡◌, ℕ, ◌+◌, ◌-◌, ◌^◌, ◌<◌, inl, inr, Some, None, nat_lt, get_or, refl, sym, ◌∙◌, subst, arith, Option, List, length, slice_index, Contains, AllWithin, get_or_default, Contains-get_or}
use Rattle.std.proofs.lemmas.Bool.{cond_both}
use Rattle.std.proofs.lemmas.List.Elements.{AllWithin-more}
use Rattle.search_laws.specs.{GraphMeaning, Leg, Way, LabelsMeaning, AllAfter}
use Rattle.product_search.specs.{declared.row.Reached.Reached, declared.row.Taken.Taken, declared.frontier.Frontier.Frontier, inside.IsReachedBy, inside.IsWanted, inside.delay_at, inside.Offers, inside.IsTakenAs, inside.reached_by, inside.IsReachedIfWanted, inside.LegIsReached, inside.WayIsReached, inside.ArcIsReached, inside.IsStartAt, inside.IsStartAmong, inside.StartIsReached}

-- ---- many offers

-- what was taken has its row still
taken_keeps : (mid new : Frontier) (P Q : ℕ → ℕ → Reached → Type 0) → Offers mid new Q → (w : Taken) → IsTakenAs mid P w → IsTakenAs new P w
taken_keeps mid new P Q next w (r, known, is) =
    let now = next.kept w.row r known in
    (now.0, now.1, subst (λ q. P (now.0).node q (reached_by w)) (sym (now.2).state) (subst (λ v. P v r.state (reached_by w)) (sym (now.2).node) is))

pub offers_more : (old mid new : Frontier) (P : ℕ → ℕ → Reached → Type 0) → Offers old mid P → Offers mid new P → Offers old new P
offers_more old mid new P first next = record {
  base = next.base ∙ first.base;
  until = next.until ∙ first.until;
  kept = λ k r known.
      (let a = first.kept k r known in
      let b = next.kept k a.0 a.1 in
      (b.0, b.1, record { node = (b.2).node ∙ (a.2).node; state = (b.2).state ∙ (a.2).state; delay = omega (arith, (b.2).delay, (a.2).delay) }));
  changes = λ k r known. elim (next.changes k r known) [
    | inl same ↦ elim (first.changes k r same) [ inl before ↦ inl before | inr waits ↦ inr (next.queued r.delay _ waits) ]
    | inr waits ↦ inr waits
  ];
  queued = λ t x has. next.queued t x (first.queued t x has);
  stay = λ n w known. next.stay n w (first.stay n w known);
  taken = λ n w known. elim (next.taken n w known) [
    | inl same ↦ elim (first.taken n w same) [ inl before ↦ inl before | inr is ↦ inr (taken_keeps mid new P P next w is) ]
    | inr is ↦ inr is
  ];
  count = omega (arith, first.count, next.count);
}

pub offers_weaker : (old new : Frontier) (P Q : ℕ → ℕ → Reached → Type 0) → ((w r : ℕ) (x : Reached) → P w r x → Q w r x) → Offers old new P → Offers old new Q
offers_weaker old new P Q imp offers = record {
  base = offers.base;
  until = offers.until;
  kept = offers.kept;
  changes = offers.changes;
  queued = offers.queued;
  stay = offers.stay;
  taken = λ n w known. elim (offers.taken n w known) [ inl same ↦ inl same | inr is ↦ inr (is.0, is.1, imp (is.0).node (is.0).state (reached_by w) is.2) ];
  count = offers.count;
}

-- one more element of a list is offered
pub offers_next : {X : Type 0} (P : X → ℕ → ℕ → Reached → Type 0) (xs : List X) (i : ℕ) (d : X) → i < length xs → (old mid new : Frontier)
    → Offers old mid (λ w r x. (y : X) × Contains xs y × P y w r x) → Offers mid new (P (get_or xs i d)) → Offers old new (λ w r x. (y : X) × Contains xs y × P y w r x)
offers_next {X} P xs i d inside old mid new first next =
    let Q : ℕ → ℕ → Reached → Type 0 = λ w r x. (y : X) × Contains xs y × P y w r x in
    offers_more old mid new Q first (offers_weaker mid new (P (get_or xs i d)) Q (λ w r x is. (get_or xs i d, Contains-get_or xs i d inside, is)) next)

-- what holds of those before stays so, and it holds of this one
pub holds_next : {X : Type 0} (P Q : X → Type 0) (xs : List X) (i : ℕ) (d : X) → i < length xs → ((x : X) → P x → Q x) → AllWithin P xs 0 i → Q (get_or xs i d)
    → AllWithin Q xs 0 (i + 1)
holds_next P Q xs i d inside stays before here =
    AllWithin-more Q xs 0 i (λ k e from lt. stays (get_or xs k e) (before k e from lt)) (λ e. subst Q (get_or_default xs i d e inside) here)

-- ---- what is kept

-- what is reached by then stays so
pub reached_keeps : (old new : Frontier) (P : ℕ → ℕ → Reached → Type 0) → Offers old new P → (v q t : ℕ) → IsReachedBy old v q t → IsReachedBy new v q t
reached_keeps old new P offers v q t by =
    let now = offers.kept by.number by.row by.known in
    record {
      number = by.number;
      row = now.0;
      known = now.1;
      node = (now.2).node ∙ by.node;
      state = (now.2).state ∙ by.state;
      by = omega (arith, offers.base, (now.2).delay, by.by);
    }

-- no more is wanted than before
pub wanted_same : (old new : Frontier) (P : ℕ → ℕ → Reached → Type 0) → Offers old new P → (t : ℕ) → IsWanted new t → IsWanted old t
wanted_same old new P offers t wanted = elim wanted [ inl all ↦ inl (sym offers.until ∙ all) | inr before ↦ inr (omega (arith, offers.base, offers.until, before)) ]

-- what holds of each state after a letter, or after none, also holds if it is less
pub all_after_weaker : (l : LabelsMeaning) (q : ℕ) (letter : Option ℕ) (P Q : ℕ → Type 0) → ((r : ℕ) → P r → Q r) → AllAfter l q letter P → AllAfter l q letter Q
all_after_weaker l q None P Q imp all = imp q all
all_after_weaker l q (Some c) P Q imp all = λ j lt by. imp (l.move_at q j).to (all j lt by)

module _ (old new : Frontier) (P : ℕ → ℕ → Reached → Type 0) (offers : Offers old new P) where
  -- so it does if it is wanted
  pub if_wanted_keeps : (v q t : ℕ) → IsReachedIfWanted old v q t → IsReachedIfWanted new v q t
  if_wanted_keeps v q t reached wanted = reached_keeps old new P offers v q t (reached (wanted_same old new P offers t wanted))

  pub leg_keeps : (next delay : ℕ) (leg : Leg) → LegIsReached old next delay leg → LegIsReached new next delay leg
  leg_keeps next delay leg reached =
      if_wanted_keeps leg.to next (new.base + (delay + leg.ms)) (subst (λ b. IsReachedIfWanted old leg.to next (b + (delay + leg.ms))) (sym offers.base) reached)

pub arc_keeps : (g : GraphMeaning) (l : LabelsMeaning) (old new : Frontier) (P : ℕ → ℕ → Reached → Type 0) → Offers old new P → (v q t i : ℕ)
    → ArcIsReached g l old v q t i → ArcIsReached g l new v q t i
arc_keeps g l old new P offers v q t i reached u e wanted =
    all_after_weaker l q (g.arc_at v i).letter (λ r. IsReachedBy old (g.arc_at v i).to r u) (λ r. IsReachedBy new (g.arc_at v i).to r u)
    (λ r by. reached_keeps old new P offers (g.arc_at v i).to r u by) (reached u e (wanted_same old new P offers u wanted))

pub way_keeps : (l : LabelsMeaning) (old new : Frontier) (P : ℕ → ℕ → Reached → Type 0) → Offers old new P → (q : ℕ) (way : Way)
    → WayIsReached l old q way → WayIsReached l new q way
way_keeps l old new P offers q way reached wanted =
    all_after_weaker l q way.arc.letter (λ r. IsReachedBy old way.arc.to r way.at) (λ r. IsReachedBy new way.arc.to r way.at)
    (λ r by. reached_keeps old new P offers way.arc.to r way.at by) (reached (wanted_same old new P offers way.at wanted))

-- what is reached at the departure stays so
pub departure_keeps : (old new : Frontier) (P : ℕ → ℕ → Reached → Type 0) → Offers old new P → (v q : ℕ) → IsReachedBy old v q old.base → IsReachedBy new v q new.base
departure_keeps old new P offers v q by = reached_keeps old new P offers v q new.base (subst (IsReachedBy old v q) (sym offers.base) by)

pub start_keeps : (l : LabelsMeaning) (old new : Frontier) (P : ℕ → ℕ → Reached → Type 0) → Offers old new P → (node : ℕ)
    → StartIsReached old l node → StartIsReached new l node
start_keeps l old new P offers node reached q lt start = departure_keeps old new P offers node q (reached q lt start)

-- ---- what is offered

pub start_among : (l : LabelsMeaning) (starts : List ℕ) (k w r : ℕ) (x : Reached) → k < length starts → IsStartAt l (slice_index starts k) w r x
    → IsStartAmong l starts w r x
start_among l starts k w r x lt is = record {
  starts_there = subst (λ y. Contains starts y) (sym is.node_is) (Contains-get_or starts k 0 lt);
  is_state = is.is_state;
  is_start = is.is_start;
  as_made = is.as_made;
}

-- a delay below the greatest one is that of its time
pub delay_is : (base t : ℕ) → delay_at base t < 2 ^ 64 - 1 → delay_at base t ≡ t - base
delay_is base t = cond_both (nat_lt (t - base) (2 ^ 64 - 1)) (t - base) (2 ^ 64 - 1) (λ d. d < 2 ^ 64 - 1 → d ≡ t - base)
    (λ e lt. refl) (λ e lt. absurd (omega arith))
