-- What is traced is reached by a walk; and where nobody waits, all that walks reach is known.
use Rattle.plan_base.proofs.Common.{◌≡◌, ℕ, zero, suc, ◌+◌, ◌<◌, ◌≤◌, inl, inr, List, [], ◌∷◌, ◌++◌, Some, refl, sym, ◌∙◌, ap, subst, arith, option_to_list, slice_get, get_or_default}
use Rattle.search_laws.specs.{GraphMeaning, HasArc, IsLawfulGraph, LabelsMeaning, Reads, Follows, AllAfter, arc, word_from}
use Rattle.search_laws.proofs.WalkLemmas.{reads_more, reads_one, walk_more, word_more, walk_rises, walk_known}
use Rattle.product_search.specs.{declared.row.Row.Row, declared.row.Taken.Taken, declared.frontier.Frontier.Frontier, IsReachedAt, inside.rows, inside.ways, inside.Waits, inside.IsFrontier, inside.IsReachedBy, inside.IsWanted, inside.ArcIsReached, inside.AreTraced, inside.IsTracedTo, inside.IsSearching, inside.IsDone}
use Rattle.product_search.proofs.OfferLemmas.{all_after_weaker}

-- ---- walks

-- a walk with one arc more
pub reached_more : (g : GraphMeaning) (l : LabelsMeaning) (starts : List ℕ) (dep v q t i u r : ℕ) → IsReachedAt g l starts dep v q t → HasArc g v i
    → g.arrive v i t ≡ Some u → Follows l q (g.arc_at v i).letter r → IsReachedAt g l starts dep (g.arc_at v i).to r u
reached_more g l starts dep v q t i u r reached has e follows = record {
  start = reached.start;
  first = reached.first;
  steps = reached.steps ++ arc i ∷ [];
  starts_there = reached.starts_there;
  is_state = reached.is_state;
  is_start = reached.is_start;
  walk = walk_more g reached.steps reached.start dep v t i u reached.walk has e;
  reads = subst (λ w. Reads l reached.first w r) (sym (word_more g reached.steps reached.start dep v t i reached.walk))
      (reads_more l (word_from g reached.start reached.steps) (option_to_list (g.arc_at v i).letter) reached.first q r reached.reads
      (reads_one l (g.arc_at v i).letter q r follows));
}

-- ---- what is traced

module _ (g : GraphMeaning) (l : LabelsMeaning) (starts : List ℕ) (f : Frontier) (traced : AreTraced g l starts f) where
  -- the walk back ends, as numbers fall: the count is above the number of the way
  reached_behind : (count n : ℕ) (r : Row) (w : Taken) (p : ℕ) → n < count → IsTracedTo g l starts f n r w p
      → IsReachedAt g l starts f.base r.node r.state (f.base + w.delay)
  reached_behind count n r w zero lt from = record {
    start = r.node;
    first = r.state;
    steps = [];
    starts_there = from.starts_there;
    is_state = from.is_state;
    is_start = from.is_start;
    walk = (refl, omega (arith, from.at));
    reads = refl;
  }
  reached_behind zero n r w (suc k) lt from = absurd (omega arith)
  reached_behind (suc count) n r w (suc k) lt from =
      let t = traced k from.way from.known in
      let same : Some t.0 ≡ Some from.from = sym t.1 ∙ from.leads in
      let is : t.0 ≡ from.from = cc in
      let parent : IsReachedAt g l starts f.base (from.from).node (from.from).state (f.base + (from.way).delay) =
      subst (λ (x : Row). IsReachedAt g l starts f.base x.node x.state (f.base + (from.way).delay)) is
      (reached_behind count k t.0 from.way (from.way).parent (omega (arith, from.before, lt)) t.2) in
      subst (λ v. IsReachedAt g l starts f.base v r.state (f.base + w.delay)) (sym from.node)
      (reached_more g l starts f.base (from.from).node (from.from).state (f.base + (from.way).delay) w.arc (f.base + w.delay) r.state
      parent from.has from.arrives from.state)

  -- some walk is where a way leads to at its time
  pub way_reached : (n : ℕ) (w : Taken) (r : Row) → slice_get (ways f) n ≡ Some w → slice_get (rows f) w.row ≡ Some r
      → IsReachedAt g l starts f.base r.node r.state (f.base + w.delay)
  way_reached n w r known leads =
      let t = traced n w known in
      let same : Some t.0 ≡ Some r = sym t.1 ∙ leads in
      let is : t.0 ≡ r = cc in
      subst (λ (x : Row). IsReachedAt g l starts f.base x.node x.state (f.base + w.delay)) is (reached_behind (suc n) n t.0 w w.parent (omega arith) t.2)

  -- and so is one where a row is
  pub row_reached : IsFrontier f → (k : ℕ) (r : Row) → slice_get (rows f) k ≡ Some r → IsReachedAt g l starts f.base r.node r.state (f.base + r.delay)
  row_reached right k r known =
      let last = right.last_ways k r known in
      subst (λ (d : ℕ). IsReachedAt g l starts f.base r.node r.state (f.base + d)) (last.1).delay
      (way_reached r.way last.0 r (last.1).known (ap (λ j. slice_get (rows f) j) (last.1).row ∙ known))

-- ---- what is done

-- nobody waits for a time up to t
abbrev pub NoneWaitsBy : Frontier → ℕ → Type 0
NoneWaitsBy f t = (k : ℕ) (r : Row) → slice_get (rows f) k ≡ Some r → f.base + r.delay ≤ t → Waits f k r → ⊥

-- v and q are reached at t, and their row is done
pub record IsDoneAt (g : GraphMeaning) (l : LabelsMeaning) (P : ℕ → ℕ → ℕ → Type 0) (f : Frontier) (v q t : ℕ) : Type 0 where
  pub number : ℕ
  pub row : Row
  pub known : slice_get (rows f) number ≡ Some row
  pub node : row.node ≡ v
  pub state : row.state ≡ q
  pub at : f.base + row.delay ≡ t
  pub done : IsDone g l P f row

pub wanted_down : (f : Frontier) (s t : ℕ) → s ≤ t → IsWanted f t → IsWanted f s
wanted_down f s t le wanted = elim wanted [ inl all ↦ inl all | inr before ↦ inr (omega (arith, before, le)) ]

-- what is wanted of a row
pub row_wanted : (f : Frontier) → IsFrontier f → (k : ℕ) (r : Row) → slice_get (rows f) k ≡ Some r → IsWanted f (f.base + r.delay) → r.delay < f.until
row_wanted f right k r known wanted = elim wanted [
  | inl all ↦ omega (arith, all, right.soon k r known)
  | inr before ↦ omega (arith, before)
]

-- where nobody waits any more by t2, which is wanted, all that a walk reaches by then is done
module _ (g : GraphMeaning) (lawful : IsLawfulGraph g) (l : LabelsMeaning) (starts : List ℕ) (dep : ℕ) (P : ℕ → ℕ → ℕ → Type 0) (f : Frontier)
    (searching : IsSearching g l starts dep P f) (t2 : ℕ) (wanted : IsWanted f t2) (none : NoneWaitsBy f t2) where
  done_by : (v q t : ℕ) → t ≤ t2 → IsReachedBy f v q t → (b : ℕ) × (b ≤ t) × IsDoneAt g l P f v q b
  done_by v q t le reached = (
    f.base + (reached.row).delay,
    reached.by,
    record {
      number = reached.number;
      row = reached.row;
      known = reached.known;
      node = reached.node;
      state = reached.state;
      at = refl;
      done = done_now reached.number reached.row reached.known (omega (arith, reached.by, le));
    },
  ) where
    done_now : (k : ℕ) (x : Row) → slice_get (rows f) k ≡ Some x → f.base + x.delay ≤ t2 → IsDone g l P f x
    done_now k x known le = elim (searching.open_or_done k x known) [
      | inl waits ↦ absurd (none k x known le waits)
      | inr done ↦ done (row_wanted f searching.right k x known (wanted_down f (f.base + x.delay) t2 le wanted))
    ]

  closed : (v q s i a : ℕ) → IsDoneAt g l P f v q s → HasArc g v i → g.arrive v i s ≡ Some a → s ≤ t2 → a ≤ t2
      → AllAfter l q (g.arc_at v i).letter (λ r. (b : ℕ) × (b ≤ a) × IsDoneAt g l P f (g.arc_at v i).to r b)
  closed v q s i a known has e before by =
      all_after_weaker l q (g.arc_at v i).letter (λ r. IsReachedBy f (g.arc_at v i).to r a) (λ r. (b : ℕ) × (b ≤ a) × IsDoneAt g l P f (g.arc_at v i).to r b)
      (λ r reached. done_by (g.arc_at v i).to r a by reached)
      (arcs a e (wanted_down f a t2 by wanted)) where
        arcs : ArcIsReached g l f v q s i
        arcs = subst (λ w. ArcIsReached g l f w q s i) known.node (subst (λ r. ArcIsReached g l f (known.row).node r s i) known.state
            (subst (λ t. ArcIsReached g l f (known.row).node (known.row).state t i) known.at
            ((known.done).arcs i (subst (λ w. i < g.arcs w) (sym known.node) has.arc))))

  pub complete : (v2 r : ℕ) → IsReachedAt g l starts dep v2 r t2 → (b : ℕ) × (b ≤ t2) × IsDoneAt g l P f v2 r b
  complete v2 r reached =
      let leaves : dep ≤ t2 = walk_rises g lawful reached.steps reached.start dep v2 t2 reached.walk in
      let place : ℕ = (reached.starts_there).0 in
      let begin : IsReachedBy f reached.start reached.first f.base =
      subst (λ v. IsReachedBy f v reached.first f.base) (get_or_default starts place 0 reached.start (reached.starts_there).1 ∙ (reached.starts_there).2)
      (searching.starts_reached place (reached.starts_there).1 reached.first reached.is_state reached.is_start) in
      walk_known g lawful l t2 (IsDoneAt g l P f) closed reached.steps reached.start reached.first dep v2 r reached.walk reached.reads
      (done_by reached.start reached.first dep leaves (subst (IsReachedBy f reached.start reached.first) searching.base begin))
