-- How marks are set, and that the marked nodes are all from which a chain of entries leads down to a target.
use Rattle.plan_base.proofs.Common.{◌≡◌, ℕ, ◌+◌, ◌<◌, ◌≤◌, ◌⊎◌, inl, inr, ◌∙◌, nat_eq, cond, Some, Bool, true, false, List, [], ◌∷◌, ◌++◌, length, set, get_or, refl, ap, arith, sym, subst, All, Contains, IsPermutation, IsSorted, nat_lt, nat_cmp, dedup, cases_lt, eqb-true, eqb-false, lt-ltb, ltb-true, length_push, length-map, get_or_default, get_or_past, get_or-set_same, get_or-set_other, length-set, Contains-append_left, Contains-append_right, Contains-append_cases, All-contains, Contains-from_dedup, Contains-permutation, IsPermutation-sym, count_by-le-length, sum_by-set, slice_get-get_or}
use Rattle.std.proofs.Math.ListN.{get_or-map}
use Rattle.std.proofs.lemmas.List.Kept.{AllPairs-from_increasing, Contains-dedup_nat}
use Rattle.std.proofs.lemmas.Map.Keys.{IsStrictlyIncreasing-dedup}
use Rattle.hierarchy.specs.{Entry, Hop, AreHops, IsDescent, HierarchyLists, height_in, IsAbove, HasEntry, AreBelow, AreEndsBelow, ArePlaces, FallsTo}
use Rattle.phase_graph.specs.{IsMarked, AreMarksFor, has_mark, marks_in, inside.AreClear, inside.AreListed, inside.AreMarked, inside.AreMarks, inside.IsMarking, inside.Extends, inside.AreOldOr, inside.IsFollowedAt, inside.IsFollowed, inside.number_at}

-- ---- one mark

last : (queue : List ℕ) (v : ℕ) → Contains (queue ++ v ∷ []) v
last queue v = Contains-append_right queue (v ∷ []) v (0, omega arith, refl)

-- a node has a mark where its number is not 0
pub has_mark_is : (numbers : List ℕ) (v : ℕ) → has_mark (marks_in numbers) v ≡ nat_lt 0 (number_at numbers v)
has_mark_is numbers v = get_or-map (λ number. nat_lt 0 number) numbers v 0

pub number_if_marked : (numbers : List ℕ) (v : ℕ) → has_mark (marks_in numbers) v ≡ true → 0 < number_at numbers v
number_if_marked numbers v is = ltb-true _ _ (sym (has_mark_is numbers v) ∙ is)

pub marked_if_number : (numbers : List ℕ) (v : ℕ) → 0 < number_at numbers v → has_mark (marks_in numbers) v ≡ true
marked_if_number numbers v some = has_mark_is numbers v ∙ lt-ltb _ _ some

-- a node past the end has none
pub number_within : (numbers : List ℕ) (v : ℕ) → 0 < number_at numbers v → v < length numbers
number_within numbers v some = elim (cases_lt v (length numbers)) [
  | inl within ↦ within
  | inr past ↦ absurd (omega (arith, some, get_or_past numbers v 0 past))
]

pub none_marked : (nodes : ℕ) (numbers : List ℕ) → AreClear nodes numbers → AreMarks nodes numbers []
none_marked nodes numbers clear = record {
  one_each = clear.one_each;
  small = λ v. omega (arith, clear.none v);
  listed = λ v some. absurd (omega (arith, some, clear.none v));
  set = λ v there. absurd (omega (arith, there.1));
  few = omega (arith, clear.one_each, count_by-le-length (λ number. nat_eq number 0) numbers);
}

pub marked_more : (nodes v : ℕ) (numbers queue : List ℕ) → AreMarks nodes numbers queue → v < nodes → number_at numbers v ≡ 0 → AreMarks nodes (set numbers v 1) (queue ++ v ∷ [])
marked_more nodes v numbers queue are low unset = record {
  one_each = length-set numbers v 1 ∙ are.one_each;
  small = λ u. small u (nat_eq u v) refl;
  listed = λ u is. by_node u is (nat_eq u v) refl;
  set = λ u there. by_origin u (nat_eq u v) refl (Contains-append_cases queue (v ∷ []) u there);
  few =
      let before = ap (λ k. cond {A = ℕ} (nat_eq k 0) 1 0) unset in
      let sums = sum_by-set (λ k. cond {A = ℕ} (nat_eq k 0) 1 0) numbers v 1 0 within in
      omega (arith, are.few, sums, before, length_push queue v);
} where
  within : v < length numbers
  within = omega (arith, low, are.one_each)

  here : number_at (set numbers v 1) v ≡ 1
  here = get_or-set_same numbers v 1 0 within

  other : (u : ℕ) → nat_eq u v ≡ false → number_at (set numbers v 1) u ≡ number_at numbers u
  other u e = get_or-set_other numbers v u 1 0 (eqb-false u v e)

  at_node : (u : ℕ) → nat_eq u v ≡ true → number_at (set numbers v 1) u ≡ 1
  at_node u e = ap (number_at (set numbers v 1)) (eqb-true u v e) ∙ here

  small : (u : ℕ) (b : Bool) → nat_eq u v ≡ b → number_at (set numbers v 1) u ≤ 1
  small u true e = omega (arith, at_node u e)
  small u false e = omega (arith, other u e, are.small u)

  by_node : (u : ℕ) → 0 < number_at (set numbers v 1) u → (b : Bool) → nat_eq u v ≡ b → Contains (queue ++ v ∷ []) u
  by_node u is true e = subst (Contains (queue ++ v ∷ [])) (sym (eqb-true u v e)) (last queue v)
  by_node u is false e = Contains-append_left queue (v ∷ []) u (are.listed u (omega (arith, is, other u e)))

  only : (i d : ℕ) → i < length (v ∷ []) → get_or (v ∷ []) i d ≡ v
  only i d lt = let first : i ≡ 0 = omega arith in ap (λ j. get_or (v ∷ []) j d) first

  by_origin : (u : ℕ) (b : Bool) → nat_eq u v ≡ b → Contains queue u ⊎ Contains (v ∷ []) u → 0 < number_at (set numbers v 1) u
  by_origin u true e origin = omega (arith, at_node u e)
  by_origin u false e (inl before) = omega (arith, are.set u before, other u e)
  by_origin u false e (inr (i, lt, is)) = absurd (eqb-false u v e (sym is ∙ only i u lt))

-- ---- all that a marked node leads from

-- what is held stays so
pub extends_contains : (old new : List ℕ) → Extends old new → (v : ℕ) → Contains old v → Contains new v
extends_contains old new ext v (i, lt, is) = (i, (ext i v lt).0, (ext i v lt).1 ∙ is)

pub extends_more : (a b c : List ℕ) → Extends a b → Extends b c → Extends a c
extends_more a b c first second i d lt = let x = first i d lt in let y = second i d x.0 in (y.0, y.1 ∙ x.1)

-- what holds of all in a list and of a node holds of all where that node may have been added
pub all_or : (P : ℕ → Type 0) (old new : List ℕ) (v : ℕ) → All P old → AreOldOr v old new → P v → All P new
all_or P old new v each only is k d lt = by_origin (only (get_or new k d) (k, lt, get_or_default new k (get_or new k d) d lt))
  where
    by_origin : Contains old (get_or new k d) ⊎ (get_or new k d ≡ v) → P (get_or new k d)
    by_origin (inl there) = All-contains P old (get_or new k d) each there
    by_origin (inr same) = subst P (sym same) is

-- a target is marked, by the empty chain
pub marked_targets : (h : HierarchyLists) (targets queue : List ℕ) → All (Contains targets) queue → All (IsMarked h targets) queue
marked_targets h targets queue only k d lt = record { end = get_or queue k d; hops = []; ends_there = only k d lt; chain = refl; falls = tt }

-- a fall to a marked node marks the node that it leaves
pub marked_by_fall : (h : HierarchyLists) (targets : List ℕ) (k : ℕ) (e : Entry) → k < length h.entries → get_or h.entries k e ≡ e → IsAbove h.order e.from e.to → IsMarked h targets e.to
    → IsMarked h targets e.from
marked_by_fall h targets k e lt is above marked = record {
  end = marked.end;
  hops = record { to = e.to; weight = e.weight } ∷ marked.hops;
  ends_there = marked.ends_there;
  chain = ((e.via, (k, lt, get_or_default h.entries k e (record { from = e.from; to = e.to; weight = e.weight; via = e.via }) lt ∙ is)), marked.chain);
  falls = (above, marked.falls);
}

-- where all in the list are followed and the targets are in it, each node that is marked is in it
module _ (h : HierarchyLists) (targets queue : List ℕ) (nodes : ℕ) (below : AreBelow h nodes) (followed : (x : ℕ) → Contains queue x → IsFollowed h queue x)
    (started : (v : ℕ) → Contains targets v → v < nodes → Contains queue v) where
  by_chain : (hops : List Hop) (v end : ℕ) → Contains targets end → AreHops (HasEntry h.entries) v hops end → IsDescent (height_in h.order) v hops → v < nodes → Contains queue v
  by_chain [] v end target same down low = started v (subst (Contains targets) same target) low
  by_chain (hop ∷ hops) v end target ((via, (k, lt, is)), chain) (down, more) low =
      let entry : Entry = record { from = v; to = hop.to; weight = hop.weight; via = via } in
      let ends = subst (AreEndsBelow nodes) is (below.entries k entry lt) in
      let next = by_chain hops hop.to end target chain more ends.1 in
      followed hop.to next k entry lt is refl down

  -- so the marks are those for the targets
  pub are_marks : (numbers : List ℕ) → IsMarking h targets nodes numbers queue → AreMarksFor h targets (marks_in numbers)
  are_marks numbers far = record {
    long = subst (AreBelow h) (sym long) below;
    each = λ v is. All-contains (IsMarked h targets) queue v far.each (far.are.listed v (number_if_marked numbers v is));
    all = λ v low marked. marked_if_number numbers v (far.are.set v (by_chain marked.hops v marked.end marked.ends_there marked.chain marked.falls (omega (arith, low, long))));
  } where
    long : length (marks_in numbers) ≡ nodes
    long = length-map numbers (λ number. nat_lt 0 number) ∙ far.are.one_each

-- ---- one entry more is followed

-- what is followed stays so
pub still_followed : (h : HierarchyLists) (queue queue2 : List ℕ) (x k : ℕ) → ((v : ℕ) → Contains queue v → Contains queue2 v) → IsFollowedAt h queue x k → IsFollowedAt h queue2 x k
still_followed h queue queue2 x k more at e lt is to above = more e.from (at e lt is to above)

-- how far the places of the entries into x have been followed
pub record IsFollowing (h : HierarchyLists) (targets : List ℕ) (nodes x : ℕ) (places numbers queue queue0 : List ℕ) (n : ℕ) : Type 0 where
  pub marking : IsMarking h targets nodes numbers queue
  pub kept : Extends queue0 queue
  pub followed : (j d : ℕ) → j < n → IsFollowedAt h queue x (get_or places j d)

module _ (h : HierarchyLists) (targets : List ℕ) (nodes x : ℕ) (places numbers queue queue0 : List ℕ) (n : ℕ) (far : IsFollowing h targets nodes x places numbers queue queue0 n)
    (within : n < length places) (k : ℕ) (k_is : (d : ℕ) → get_or places n d ≡ k) (e : Entry) (inside_k : k < length h.entries) (e_is : (d : Entry) → get_or h.entries k d ≡ e) (to_x : e.to ≡ x) where
  -- the entry at the next place is this one
  one_is : (j d : ℕ) → nat_eq j n ≡ true → (e2 : Entry) → get_or h.entries (get_or places j d) e2 ≡ e2 → e ≡ e2
  one_is j d same e2 is =
      let at : get_or places j d ≡ k = ap (λ i. get_or places i d) (eqb-true j n same) ∙ k_is d in
      sym (e_is e2) ∙ ap (λ i. get_or h.entries i e2) (sym at) ∙ is

  -- an entry from a node above, which gets a mark
  pub following_more : IsAbove h.order e.from x → IsMarked h targets x → (numbers2 queue2 : List ℕ) → AreMarks nodes numbers2 queue2 → Contains queue2 e.from
      → Extends queue queue2 → AreOldOr e.from queue queue2 → IsFollowing h targets nodes x places numbers2 queue2 queue0 (n + 1)
  following_more above marked numbers2 queue2 are here kept only = record {
    marking = record { are = are; each = all_or (IsMarked h targets) queue queue2 e.from far.marking.each only (marked_by_fall h targets k e inside_k (e_is e) (subst (IsAbove h.order e.from) (sym to_x) above) (subst (IsMarked h targets) (sym to_x) marked)) };
    kept = extends_more queue0 queue queue2 far.kept kept;
    followed = λ j d lt. by_place j d lt (nat_eq j n) refl;
  } where
    by_place : (j d : ℕ) → j < n + 1 → (b : Bool) → nat_eq j n ≡ b → IsFollowedAt h queue2 x (get_or places j d)
    by_place j d lt false apart = still_followed h queue queue2 x (get_or places j d) (extends_contains queue queue2 kept) (far.followed j d (omega (arith, eqb-false j n apart)))
    by_place j d lt true same = λ e2 lt2 is to above2. subst (λ (y : Entry). Contains queue2 y.from) (one_is j d same e2 is) here

-- where all places into x are followed x is
pub followed_all : (h : HierarchyLists) (queue : List ℕ) (x : ℕ) (places : List ℕ) → ArePlaces (FallsTo h.order x) h.entries places → (n : ℕ) → length places ≤ n → ((j d : ℕ) → j < n → IsFollowedAt h queue x (get_or places j d))
    → IsFollowed h queue x
followed_all h queue x places into n past far k e lt is to above =
    let there = into.all k e (slice_get-get_or h.entries k e lt ∙ ap Some is) (record { ends = to; above = above }) in
    far there.0 k (omega (arith, there.1)) e (subst (λ i. i < length h.entries) (sym there.2) lt) (ap (λ i. get_or h.entries i e) there.2 ∙ is) to above

-- ---- the marked nodes in order

-- what is followed stays so, sorted and each node once
pub marked_in_order : (h : HierarchyLists) (nodes : ℕ) (numbers queue sorted : List ℕ) → AreMarks nodes numbers queue
    → ((x : ℕ) → Contains queue x → IsFollowed h queue x) → IsPermutation queue sorted → IsSorted nat_cmp sorted → AreMarked h (marks_in numbers) (dedup nat_eq sorted)
marked_in_order h nodes numbers queue sorted are followed moved rises = record {
  ascending = AllPairs-from_increasing _ (IsStrictlyIncreasing-dedup sorted rises);
  listed = λ v is. kept v (are.listed v (number_if_marked numbers v is));
  set = λ v there. marked_if_number numbers v (are.set v (was v there));
  followed = λ x there k. still_followed h queue (dedup nat_eq sorted) x k kept (followed x (was x there) k);
} where
  kept : (v : ℕ) → Contains queue v → Contains (dedup nat_eq sorted) v
  kept v there = Contains-dedup_nat sorted v (Contains-permutation queue sorted v moved there)

  was : (v : ℕ) → Contains (dedup nat_eq sorted) v → Contains queue v
  was v there = Contains-permutation sorted queue v (IsPermutation-sym queue sorted moved) (Contains-from_dedup nat_eq sorted v there)

-- ---- the numbers of marked nodes

-- where these are the nodes with a mark, each other node has 0
pub are_listed : (h : HierarchyLists) (numbers nodes : List ℕ) → AreMarked h (marks_in numbers) nodes → AreListed numbers nodes
are_listed h numbers nodes are = record {
  within = λ k d lt. number_within numbers (get_or nodes k d) (number_if_marked numbers (get_or nodes k d) (are.set (get_or nodes k d) (k, lt, get_or_default nodes k (get_or nodes k d) d lt)));
  others = λ v apart. elim (cases_lt 0 (number_at numbers v)) [
    | inl some ↦ absurd (apart (are.listed v (marked_if_number numbers v some)))
    | inr none ↦ omega arith
  ];
}
