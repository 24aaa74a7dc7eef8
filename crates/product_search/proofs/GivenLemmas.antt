-- What a search was given before is reached, and stays so.
use Rattle.plan_base.proofs.Common.{◌≡◌, ℕ, inl, inr, List, [], ◌++◌, sym, ◌∙◌, ap, subst, arith, All, Contains, ◌≤◌, All-weaker, All-contains}
use Rattle.search_laws.specs.{LabelsMeaning, AllAfter, HoldsRun, IsAsGood, HasAsGood, RunRides, AreFresh, AreMoving, AddsMoving, visit_by, GraphArc, Visit, Way, GivenRun, GivenRuns}
use Rattle.product_search.specs.{declared.row.Reached.Reached, declared.frontier.Scan.Scan, declared.frontier.Frontier.Frontier, inside.IsReachedBy, inside.IsWanted, inside.Offers, inside.WayIsReached, inside.AreGivenReached}
use Rattle.product_search.proofs.{OfferLemmas.reached_keeps, OfferLemmas.wanted_same, OfferLemmas.all_after_weaker, ReachLemmas.wanted_down}

reached_later : (f : Frontier) (v q s t : ℕ) → IsReachedBy f v q s → s ≤ t → IsReachedBy f v q t
reached_later f v q s t by le = record {
  number = by.number;
  row = by.row;
  known = by.known;
  node = by.node;
  state = by.state;
  by = omega (arith, by.by);
}

-- a product state that is visited at t
abbrev pub visit_of : Scan → ℕ → ℕ → ℕ → Visit
visit_of s t letters leaving = visit_by s.node t s.state letters leaving

-- the ways that were read are what is fresh of those that move
pub record AreRead (rides : RunRides) (visit : Visit) (old new : GivenRuns) (ways read : List Way) : Type 0 where
  pub moving : List Way
  pub parts : AreMoving visit.node visit.at visit.leaving ways moving
  pub fresh : AreFresh rides visit.state old new moving read

-- an empty list goes on with them alone
pub read_alone : {rides : RunRides} (visit : Visit) {old new : GivenRuns} {ways before after read : List Way} → AddsMoving rides visit old new ways before after
    → before ≡ [] → read ≡ after → AreRead rides visit old new ways read
read_alone {rides} visit {old = old} {new = new} (moving, parts, (fresh, is, are)) empty same = record {
  moving = moving;
  parts = parts;
  fresh = subst (AreFresh rides visit.state old new moving) (sym (same ∙ is ∙ ap (λ (xs : List Way). xs ++ fresh) empty)) are;
}

pub read_among : {rides : RunRides} {visit : Visit} {old new : GivenRuns} {ways read : List Way} → AreRead rides visit old new ways read → All (Contains ways) read
read_among {ways = ways} {read = read} are =
    All-weaker (Contains are.moving) (Contains ways) (λ way has. All-contains (Contains ways) are.moving way are.parts.are has) read are.fresh.are

module _ (l : LabelsMeaning) where
  -- what a way leads to is reached, if it is by one as good
  as_good_reached : (f : Frontier) (q : ℕ) (x way : Way) → IsAsGood x way → WayIsReached l f q x → WayIsReached l f q way
  as_good_reached f q x way good reached wanted =
      subst (λ (a : GraphArc). AllAfter l q a.letter (λ r. IsReachedBy f a.to r way.at)) good.arc
      (all_after_weaker l q x.arc.letter (λ r. IsReachedBy f x.arc.to r x.at) (λ r. IsReachedBy f x.arc.to r way.at)
      (λ r by. reached_later f x.arc.to r x.at way.at by good.soon) (reached (wanted_down f x.at way.at good.soon wanted)))

  -- or by one as good among some
  pub among_reached : (f : Frontier) (q : ℕ) (ways : List Way) (way : Way) → All (WayIsReached l f q) ways → HasAsGood ways way → WayIsReached l f q way
  among_reached f q ways way all (x, has, good) = as_good_reached f q x way good (All-contains (WayIsReached l f q) ways x all has)

  module _ (rides : RunRides) where
    -- at first no state was given anything
    pub none_given : (f : Frontier) (given : GivenRuns) → ((run : GivenRun) → HoldsRun given run → ⊥) → AreGivenReached rides l f given
    none_given f given none q way was = absurd (none was.run was.known)

    -- what was given stays reached where all that is reached does, and no more is wanted
    pub given_stays : (old new : Frontier) (given : GivenRuns) → ((t : ℕ) → IsWanted new t → IsWanted old t)
        → ((w r u : ℕ) → IsReachedBy old w r u → IsReachedBy new w r u) → AreGivenReached rides l old given → AreGivenReached rides l new given
    given_stays old new given less stays reached q way was wanted =
        all_after_weaker l q way.arc.letter (λ r. IsReachedBy old way.arc.to r way.at) (λ r. IsReachedBy new way.arc.to r way.at)
        (λ r by. stays way.arc.to r way.at by) (reached q way was (less way.at wanted))

    -- so it does over offers
    pub given_keeps : (old new : Frontier) (given : GivenRuns) (P : ℕ → ℕ → Reached → Type 0) → Offers old new P
        → AreGivenReached rides l old given → AreGivenReached rides l new given
    given_keeps old new given P offers = given_stays old new given (wanted_same old new P offers) (reached_keeps old new P offers)

    -- what is given now is reached, if it is by the fresh ways
    pub given_more : (f : Frontier) {state : ℕ} {old new : GivenRuns} {ways fresh : List Way} → AreFresh rides state old new ways fresh
        → All (WayIsReached l f state) fresh → AreGivenReached rides l f old → AreGivenReached rides l f new
    given_more f {state} {fresh = fresh} are all reached q way was = elim (are.noted q way was) [
      | inl before ↦ reached q way before
      | inr found ↦ subst (λ r. WayIsReached l f r way) (sym found.0) (among_reached f state fresh way all found.1)
    ]
