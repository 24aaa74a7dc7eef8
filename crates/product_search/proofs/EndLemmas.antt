-- How far the search goes, and what it has found where it ends.
use Rattle.plan_base.proofs.Common.{◌≡◌, ℕ, ◌+◌, ◌-◌, ◌^◌, ◌<◌, ◌≤◌, inl, inr, true, false, ◌&&◌, List, Some, None, refl, sym, ◌∙◌, ap, subst, arith, Option, IsTrue, Contains, slice_get, Decides, BTreeSet, nat_cmp, eq_by_cmp, false≢true, cases_lt, and_parts, and_from}
use Rattle.std.specs.BTreeSet as sorted
use Rattle.std.specs.Cmp.{unsigned_ties}
use Rattle.std.proofs.lemmas.Bool.Decides.{Decides-eqb}
use Rattle.std.proofs.lemmas.Map.Made.{is_member-Decides}
use Rattle.search_laws.specs.{GraphMeaning, IsLawfulGraph, LabelsMeaning, IsLawfulLabels, ArrivesAt, RunRides, GivenRuns}
use Rattle.product_search.specs.{declared.row.Taken.Taken, declared.frontier.Scan.Scan, declared.frontier.Frontier.Frontier, IsReachedAt, IsWithin, IsArrival, inside.rows, inside.ways, inside.IsFrontier, inside.IsWanted, inside.Takes, inside.AreGivenReached, inside.ArcIsReached, inside.Offers, inside.IsSuccessor, inside.IsSearching, inside.IsScanning, inside.IsSearched, inside.IsOfWay, inside.IsEndAt, inside.IsNoEndAt, inside.GoesTo, inside.EndsWith, inside.end_arrival}
use Rattle.product_search.proofs.{ReachLemmas.way_reached, ReachLemmas.row_wanted, ReachLemmas.wanted_down, ListLemmas.within_down, ListLemmas.listed_before, ListLemmas.listed_wanted, StepLemmas.KeepsRows, StepLemmas.keeps_same, StepLemmas.way_still, StepLemmas.wanted_still, StepLemmas.reached_same, StepLemmas.takes_scanning, StepLemmas.scanning_until, StepLemmas.scanning_ends, StepLemmas.scanning_on, GivenLemmas.given_stays}

-- ---- where the search goes to

-- it stays so where rows and ways do
pub goes_on : (l : LabelsMeaning) (targets : List ℕ) (dep : ℕ) (bound : Option ℕ) (old new : Frontier) → new.base ≡ old.base → new.until ≡ old.until → KeepsRows old new
    → ((n : ℕ) (w : Taken) → slice_get (ways old) n ≡ Some w → slice_get (ways new) n ≡ Some w) → (end : Option Scan) → GoesTo l targets dep bound old end → GoesTo l targets dep bound new end
goes_on l targets dep bound old new base until kept stay None to = until ∙ to
goes_on l targets dep bound old new base until kept stay (Some s) to =
    let of = to.is in
    let now = kept (of.way).row of.row of.leads in
    record {
      is = record {
        number = of.number;
        way = of.way;
        known = stay of.number of.way of.known;
        link = of.link;
        row = now.0;
        leads = now.1;
        node = of.node ∙ sym (now.2).node;
        state = of.state ∙ sym (now.2).state;
        delay = of.delay;
      };
      ends = to.ends;
      last = until ∙ to.last;
      soon = to.soon;
      within = subst (λ b. IsWithin bound (b + s.delay)) (sym base) to.within;
    }

-- what is wanted is within the bound
pub goes_within : (l : LabelsMeaning) (targets : List ℕ) (dep : ℕ) (bound : Option ℕ) (f : Frontier) → f.base ≡ dep → IsWithin bound dep → (end : Option Scan)
    → GoesTo l targets dep bound f end → (t : ℕ) → t < f.base + f.until → IsWithin bound t
goes_within l targets dep bound f base in_bound None to t lt = listed_before dep bound None f base in_bound to t lt
goes_within l targets dep bound f base in_bound (Some s) to t lt = within_down bound t (f.base + s.delay) (omega (arith, lt, to.last)) to.within

-- it goes to an end that was taken
pub goes_to_end : (g : GraphMeaning) (l : LabelsMeaning) (starts targets : List ℕ) (dep : ℕ) (bound : Option ℕ) (P : ℕ → ℕ → ℕ → Type 0) (f : Frontier) (s : Scan)
    → IsWithin bound dep → IsScanning g l starts dep P f s → IsEndAt l targets s.node s.state → s.delay < f.until → (end : Option Scan) → GoesTo l targets dep bound f end
    → GoesTo l targets dep bound (record f { until = s.delay }) (Some s)
goes_to_end g l starts targets dep bound P f s in_bound scanning ends early end to =
    let last = (scanning.right).last_ways scanning.number scanning.row scanning.known in
    record {
      is = record {
        number = (scanning.row).way;
        way = last.0;
        known = (last.1).known;
        link = scanning.link;
        row = scanning.row;
        leads = ap (λ k. slice_get (rows f) k) (last.1).row ∙ scanning.known;
        node = scanning.node;
        state = scanning.state;
        delay = scanning.delay ∙ sym (last.1).delay;
      };
      ends = ends;
      last = refl;
      soon = omega (arith, scanning.delay, (scanning.right).soon scanning.number scanning.row scanning.known);
      within = goes_within l targets dep bound f scanning.base in_bound end to (f.base + s.delay) (omega (arith, early));
    }

-- ---- a turn

-- where s was taken
module _ (g : GraphMeaning) (l : LabelsMeaning) (starts targets : List ℕ) (dep : ℕ) (bound : Option ℕ) (f f1 : Frontier) (s : Scan) (takes : Takes f f1 s) where
  pub goes_taken : (end : Option Scan) → GoesTo l targets dep bound f end → GoesTo l targets dep bound f1 end
  goes_taken = goes_on l targets dep bound f f1 (takes.same).base (takes.same).until (keeps_same f f1 (takes.same).rows) (way_still f f1 takes.same)

  pub given_taken : (rides : RunRides) (given : GivenRuns) → AreGivenReached rides l f given → AreGivenReached rides l f1 given
  given_taken rides given = given_stays l rides f f1 given (wanted_still f f1 takes.same) (reached_same f f1 (takes.same).base (takes.same).rows)

  module _ (searching : IsSearching g l starts dep (IsNoEndAt l targets) f) where
    pub scanning : IsScanning g l starts dep (IsNoEndAt l targets) f1 s
    scanning = takes_scanning g l starts dep (IsNoEndAt l targets) f f1 s searching takes

    early : s.delay < f1.until
    early = omega (arith, takes.early, (takes.same).until)

    soon : s.delay < 2 ^ 64 - 1
    soon = let known = scanning in omega (arith, known.delay, (known.right).soon known.number known.row known.known)

    -- if it is an end, the search goes up to it
    pub searching_to : IsSearching g l starts dep (IsNoEndAt l targets) (record f1 { until = s.delay })
    searching_to = scanning_ends g l starts dep (IsNoEndAt l targets) (record f1 { until = s.delay }) s refl
        (scanning_until g l starts dep s.delay (IsNoEndAt l targets) f1 s (omega (arith, early)) (λ all. absurd (omega (arith, all, soon))) scanning)

    pub given_to : (rides : RunRides) (given : GivenRuns) → AreGivenReached rides l f given → AreGivenReached rides l (record f1 { until = s.delay }) given
    given_to rides given reached = given_stays l rides f1 (record f1 { until = s.delay }) given
        (λ t is. elim is [ inl all ↦ absurd (omega (arith, all, soon)) | inr lt ↦ inr (omega (arith, lt, early)) ])
        (reached_same f1 (record f1 { until = s.delay }) refl refl) (given_taken rides given reached)

    pub goes_to : IsWithin bound dep → IsEndAt l targets s.node s.state → (end : Option Scan) → GoesTo l targets dep bound f end → GoesTo l targets dep bound (record f1 { until = s.delay }) (Some s)
    goes_to in_bound ends end to = goes_to_end g l starts targets dep bound (IsNoEndAt l targets) f1 s in_bound scanning ends early end (goes_taken end to)

    -- else its arcs are explored
    module _ (lawful : IsLawfulGraph g) (labels : IsLawfulLabels l) (f2 : Frontier) (offers : Offers f1 f2 (IsSuccessor g l f1.base s)) where
      pub explored : IsFrontier f2 → ((i : ℕ) → i < g.arcs s.node → ArcIsReached g l f2 s.node s.state (f2.base + s.delay) i)
          → IsNoEndAt l targets s.node s.state (dep + s.delay) → IsSearching g l starts dep (IsNoEndAt l targets) f2
      explored right reached no_end = scanning_on g lawful l labels starts dep (IsNoEndAt l targets) f1 f2 s scanning offers right reached no_end

      pub goes_explored : (end : Option Scan) → GoesTo l targets dep bound f end → GoesTo l targets dep bound f2 end
      goes_explored end to = goes_on l targets dep bound f1 f2 offers.base offers.until offers.kept offers.stay end (goes_taken end to)

-- ---- the arrival

module _ (g : GraphMeaning) (l : LabelsMeaning) (starts targets : List ℕ) (dep : ℕ) (bound : Option ℕ) (f : Frontier) (searched : IsSearched g l starts dep (IsNoEndAt l targets) f) where
  -- no walk arrives at a time that is wanted
  pub none_wanted : (t : ℕ) → ArrivesAt g l starts targets dep t → IsWanted f t → ⊥
  none_wanted t arrives wanted =
      let word = arrives.word in
      let known = searched.complete arrives.end word.1 t
      (record {
        start = arrives.start;
        first = word.0;
        steps = arrives.steps;
        starts_there = arrives.starts_there;
        is_state = word.2;
        is_start = word.3;
        walk = arrives.walk;
        reads = word.4;
      }) wanted in
      let early = row_wanted f searched.right known.number known.row known.known (wanted_down f (f.base + (known.row).delay) t known.by wanted) in
      searched.seen known.number known.row known.known early (
        subst (λ v. Contains targets v) (sym known.node) arrives.ends_there,
        subst (λ q. IsTrue (l.accepts q)) (sym known.state) word.5,
      )

  of_way : (s : Scan) → IsOfWay f s → IsReachedAt g l starts dep s.node s.state (f.base + s.delay)
  of_way s of = rw (sym searched.base, of.node, of.state, of.delay) (way_reached g l starts f searched.traced of.number of.way of.row of.known of.leads)

  pub arrives : (end : Option Scan) → GoesTo l targets dep bound f end → IsArrival g l starts targets dep bound (end_arrival f end)
  arrives None to = λ t within arrival. none_wanted t arrival (listed_wanted dep bound None f searched.base to t within)
  arrives (Some s) to =
      (record { reached = there; least = earliest }, to.within) where
        walk : IsReachedAt g l starts dep s.node s.state (f.base + s.delay)
        walk = of_way s to.is

        there : ArrivesAt g l starts targets dep (f.base + s.delay)
        there = record {
          start = walk.start;
          end = s.node;
          steps = walk.steps;
          starts_there = walk.starts_there;
          ends_there = (to.ends).0;
          walk = walk.walk;
          word = (walk.first, s.state, walk.is_state, walk.is_start, walk.reads, (to.ends).1);
        }

        earliest : (t : ℕ) → ArrivesAt g l starts targets dep t → f.base + s.delay ≤ t
        earliest t arrival = elim (cases_lt t (f.base + s.delay)) [
          | inl lt ↦ absurd (none_wanted t arrival (inr (omega (arith, lt, to.last))))
          | inr ge ↦ ge
        ]

pub ends_with : (l : LabelsMeaning) (targets : List ℕ) (dep : ℕ) (bound : Option ℕ) (f : Frontier) (end : Option Scan) → GoesTo l targets dep bound f end
    → EndsWith dep bound f (end_arrival f end)
ends_with l targets dep bound f None to = to
ends_with l targets dep bound f (Some s) to = (ap (λ d. f.base + d) (sym to.last), omega (arith, to.last, to.soon))

-- ---- ends

contained : (targets : List ℕ) (ends : BTreeSet ℕ) (v : ℕ) → sorted.IsFromIterResult nat_cmp targets ends → Decides (sorted.contains nat_cmp ends v) (Contains targets v)
contained targets ends v made = subst (λ b. Decides b (Contains targets v)) (sym (made.0 v)) (is_member-Decides same targets v) where
  same : (a b : ℕ) → Decides (eq_by_cmp nat_cmp a b) (a ≡ b)
  same a b = subst (λ t. Decides t (a ≡ b)) (unsigned_ties a b) (Decides-eqb a b)

module _ (l : LabelsMeaning) (targets : List ℕ) (ends : BTreeSet ℕ) (v q : ℕ) (made : sorted.IsFromIterResult nat_cmp targets ends) where
  pub is_end : true ≡ (l.accepts q && sorted.contains nat_cmp ends v) → IsEndAt l targets v q
  is_end e = let p = and_parts (l.accepts q) (sorted.contains nat_cmp ends v) (sym e) in ((contained targets ends v made).0 p.1, p.0)

  pub is_no_end : (t : ℕ) → false ≡ (l.accepts q && sorted.contains nat_cmp ends v) → IsNoEndAt l targets v q t
  is_no_end t e (target, is) = false≢true (e ∙ and_from (l.accepts q) (sorted.contains nat_cmp ends v) is ((contained targets ends v made).1 target))
