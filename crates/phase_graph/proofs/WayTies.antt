-- The ways out of a node of the phase graph: along entries, and those that the plain graph has too.
use Rattle.plan_base.proofs.Common.{◌≡◌, ℕ, ◌+◌, ◌-◌, ◌^◌, ◌<◌, ◌≤◌, Bool, true, false, cond, List, [], ◌∷◌, ◌++◌, length, take, drop, set, get_or, zero, suc, Option, Some, None, refl, sym, ◌∙◌, ap, subst, append_assoc, append-nil, arith, All, Contains, filter, map, is_some, range_with_len, get_or-append_seam, drop-append_seam, take-append_seam, drop_more, take_more, length-append, length-map, length-take-le, length-drop, get_or-drop, map-append, All-cons, All-nil, All-append, All-contains, All-weaker}
use Rattle.std.proofs.Math.Seq.{set-append_seam}
use Rattle.search_laws.specs.{GraphMeaning, AreFresh, AddsFresh, StandsStill, AreMoving, AddsMoving, visit_by, is_open, moving_letters, way_if, open_way, way_at, ways_from, ways_past, GivenRuns, GraphArc, Way}
use Rattle.search_laws.proofs.{FreshLemmas.LeadsElsewhere, FreshLemmas.adds_all, FreshLemmas.adds_more, FreshLemmas.fresh_elsewhere, FreshLemmas.moving_all, FreshLemmas.moving_append, FreshLemmas.moving_asked, WayLemmas.ways_split}
use Rattle.timetable_arcs.specs.{TableLists, IsTable}
use Rattle.timetable_arcs.proofs.TableLemmas.{rides_few}
use Rattle.mode_network.specs.{NetworkLists.NetworkLists, nodes_of, letter_at, stop_at, IsNetwork, IsTimetableOf}
use Rattle.mode_network.proofs.IndexLemmas.{range_is_range}
use Rattle.hierarchy.specs.{HierarchyLists, entry_at}
use Rattle.plain_graph.specs.{plain_rides, plain_meaning, count_from, inner_arcs_at, rides_from_stop, arrival, plain_lawful}
use Rattle.plain_graph.proofs.PlaceTies.{past_roads_stand}
use Rattle.phase_graph.specs.{declared.falls.Fall.Fall, PhaseArc, Down, Other, phase_node, is_fall, phase_meaning, phase_arc, arc_of, phase_arrival, rises_at, first_entry, entries_at, others_at, first_other, node_of, is_down, before_descent, renumbered, phase_rides, FitsAnew, inside.fall_at, inside.fall_way, inside.falls_from}
use Rattle.phase_graph.proofs.{GraphLemmas.whole, PlaceLemmas.down_is, PlaceLemmas.other_is}

-- ---- what is put behind a list

-- where it is changed there
behind_seam : (f : Way → Way) (before more mid after : List Way) → mid ≡ before ++ more → after ≡ take (length before) mid ++ map f (drop (length before) mid) → after ≡ before ++ map f more
behind_seam f before more mid after e done =
    done ∙ ap (λ (ws : List Way). take (length before) ws ++ map f (drop (length before) ws)) e
    ∙ ap (λ (ws : List Way). ws ++ map f (drop (length before) (before ++ more))) (take-append_seam before more)
    ∙ ap (λ (ws : List Way). before ++ map f ws) (drop-append_seam before more)

leads_before : (first now : ℕ) → LeadsElsewhere before_descent (renumbered first now)
leads_before first now = record { arc = λ way. refl; at = λ way. refl }

module _ (n : NetworkLists) (h : HierarchyLists) (t : TableLists) (marks : List Bool) (p time letters : ℕ) where
  abbrev g : GraphMeaning
  g = phase_meaning n t h marks

  abbrev plain : GraphMeaning
  plain = plain_meaning n t

  abbrev from : ℕ → ℕ → List Way
  from i k = ways_from g p time letters i k

  abbrev letter : Option ℕ
  letter = letter_at n.roads (node_of p)

  abbrev ups : ℕ
  ups = length (rises_at h (node_of p) (is_down p))

  abbrev downs : ℕ
  downs = entries_at h (node_of p)

  abbrev begin : ℕ
  begin = first_entry h (node_of p)

  abbrev as_way : Fall → Way
  as_way fall = fall_way letter time begin ups fall

  abbrev arc_there : ℕ → PhaseArc
  arc_there i = phase_arc n h (node_of p) (is_down p) i

  -- a known arc at a place
  way_is : (i : ℕ) (a : PhaseArc) → arc_there i ≡ a → way_at g p time letters i ≡ open_way letters i (arc_of n t h (node_of p) (is_down p) a) (phase_arrival n t h marks (node_of p) time a)
  way_is i a is = ap (λ (x : PhaseArc). open_way letters i (arc_of n t h (node_of p) (is_down p) x) (phase_arrival n t h marks (node_of p) time x)) is

  -- ---- entries

  -- an entry of the node is a way where it falls
  one_falls : is_open letters letter ≡ true → (i : ℕ) → i < downs
      → way_at g p time letters (ups + i) ≡ cond (is_fall h marks (entry_at h.entries (begin + i))) (as_way (fall_at h (begin + i)) ∷ []) []
  one_falls opens i lt =
      way_is (ups + i) (Down (begin + i)) (down_is n h (node_of p) (is_down p) i (begin + i) lt refl) ∙ rw opens (by_test (is_fall h marks (entry_at h.entries (begin + i))))
    where
      by_test : (b : Bool) → way_if (ups + i) (arc_of n t h (node_of p) (is_down p) (Down (begin + i))) (cond b (Some (time + (entry_at h.entries (begin + i)).weight)) None)
          ≡ cond b (as_way (fall_at h (begin + i)) ∷ []) []
      by_test false = refl
      by_test true =
          let same : ups + i ≡ begin + i - begin + ups = omega arith in
          ap (λ k. record { place = k; arc = record { to = phase_node (entry_at h.entries (begin + i)).to true; letter = letter }; at = time + (entry_at h.entries (begin + i)).weight } ∷ []) same

  -- so the falls of some of its entries are their ways
  falls_are : is_open letters letter ≡ true → (i k : ℕ) → i + k ≤ downs → map as_way (falls_from h marks (begin + i) k) ≡ from (ups + i) k
  falls_are opens i zero within = refl
  falls_are opens i (suc k) within =
      let next : begin + i + 1 ≡ begin + (i + 1) = omega arith in
      let there : ups + (i + 1) ≡ ups + i + 1 = omega arith in
      by_test (is_fall h marks (entry_at h.entries (begin + i))) ∙ ap (λ (ws : List Way). ws ++ map as_way (falls_from h marks (begin + i + 1) k)) (sym (one_falls opens i (omega arith)))
      ∙ ap (λ (ws : List Way). way_at g p time letters (ups + i) ++ ws) (ap (λ x. map as_way (falls_from h marks x k)) next ∙ falls_are opens (i + 1) k (omega arith) ∙ ap (λ x. from x k) there)
    where
      later : List ℕ
      later = filter (λ place. is_fall h marks (entry_at h.entries place)) (range_with_len (begin + i + 1) k)

      by_test : (b : Bool) → map as_way (map (fall_at h) (cond b ((begin + i) ∷ later) later)) ≡ cond b (as_way (fall_at h (begin + i)) ∷ []) [] ++ map as_way (map (fall_at h) later)
      by_test true = refl
      by_test false = refl

  -- and those of all are its ways along entries down
  pub fall_ways : is_open letters letter ≡ true → map as_way (falls_from h marks begin downs) ≡ from ups downs
  fall_ways opens =
      let here : begin ≡ begin + 0 = omega arith in
      let there : ups + 0 ≡ ups = omega arith in
      ap (λ x. map as_way (falls_from h marks x downs)) here ∙ falls_are opens 0 downs (omega arith) ∙ ap (λ x. from x downs) there

  -- where their letter is not in the set there are none
  entry_closed : is_open letters letter ≡ false → (i : ℕ) (a : PhaseArc) → arc_there i ≡ a → (arc_of n t h (node_of p) (is_down p) a).letter ≡ letter → way_at g p time letters i ≡ []
  entry_closed closed i a is tells = way_is i a is ∙ shut (is_open letters (arc_of n t h (node_of p) (is_down p) a).letter) (ap (is_open letters) tells ∙ closed)
    where
      shut : (b : Bool) → b ≡ false → cond b (way_if i (arc_of n t h (node_of p) (is_down p) a) (phase_arrival n t h marks (node_of p) time a)) [] ≡ []
      shut true e = cc
      shut false e = refl

  downs_closed : is_open letters letter ≡ false → (i k : ℕ) → i + k ≤ downs → from (ups + i) k ≡ []
  downs_closed closed i zero within = refl
  downs_closed closed i (suc k) within =
      let is = entry_closed closed (ups + i) (Down (first_entry h (node_of p) + i)) (down_is n h (node_of p) (is_down p) i _ (omega arith) refl) refl in
      let next : ups + i + 1 ≡ ups + (i + 1) = omega arith in
      ap (λ (ws : List Way). ws ++ from (ups + i + 1) k) is ∙ ap (λ x. from x k) next ∙ downs_closed closed (i + 1) k (omega arith)

  pub falls_closed : (before : List Way) → is_open letters letter ≡ false → before ≡ before ++ from ups downs
  falls_closed before closed =
      let none : ups + 0 ≡ ups = omega arith in
      let falls_none : from ups downs ≡ [] = ap (λ x. from x downs) (sym none) ∙ downs_closed closed 0 downs (omega arith) in
      sym (append-nil before) ∙ ap (λ (ws : List Way). before ++ ws) (sym falls_none)

  -- nor where the node has none
  pub falls_ended : (before : List Way) → falls_from h marks begin downs ≡ [] → before ≡ before ++ from ups downs
  falls_ended before none = by_letter (is_open letters letter) refl
    where
      by_letter : (b : Bool) → is_open letters letter ≡ b → before ≡ before ++ from ups downs
      by_letter false closed = falls_closed before closed
      by_letter true opens = sym (append-nil before) ∙ ap (λ (ws : List Way). before ++ ws) (ap (map as_way) (sym none) ∙ fall_ways opens)

  -- ---- the arcs that the plain graph has too

  -- before the descent: the same arcs behind the road arcs, numbered anew
  other_at : is_down p ≡ false → (k : ℕ) → arc_there (ups + downs + k) ≡ Other (count_from n.arcs (node_of p) + k)
  other_at first k =
      let place = count_from n.arcs (node_of p) + k in
      let low : first_other n (node_of p) (is_down p) ≡ count_from n.arcs (node_of p) + 0 = ap (λ d. first_other n (node_of p) d) first in
      let at : ups + downs + k ≡ ups + downs + (place - first_other n (node_of p) (is_down p)) = omega (arith, low) in
      ap arc_there at ∙ other_is n h (node_of p) (is_down p) place (omega (arith, low))

  one_renumbered : is_down p ≡ false → (k : ℕ)
      → map (renumbered (count_from n.arcs (node_of p)) (ups + downs)) (way_at plain (node_of p) time letters (count_from n.arcs (node_of p) + k)) ≡ way_at g p time letters (ups + downs + k)
  one_renumbered first k =
      by_tests (is_open letters (plain.arc_at (node_of p) place).letter) (plain.arrive (node_of p) place time)
      ∙ ap (λ d. open_way letters (ups + downs + k) (record { to = phase_node (plain.arc_at (node_of p) place).to d; letter = (plain.arc_at (node_of p) place).letter }) (plain.arrive (node_of p) place time)) (sym first)
      ∙ sym (way_is (ups + downs + k) (Other place) (other_at first k))
    where
      place : ℕ
      place = count_from n.arcs (node_of p) + k

      arc : GraphArc
      arc = plain.arc_at (node_of p) place

      by_tests : (b : Bool) (o : Option ℕ) → map (renumbered (count_from n.arcs (node_of p)) (ups + downs)) (cond b (way_if place arc o) [])
          ≡ cond b (way_if (ups + downs + k) (record { to = phase_node arc.to false; letter = arc.letter }) o) []
      by_tests false o = refl
      by_tests true None = refl
      by_tests true (Some at) =
          let same : place - count_from n.arcs (node_of p) + (ups + downs) ≡ ups + downs + k = omega arith in
          ap (λ x. record { place = x; arc = record { to = phase_node arc.to false; letter = arc.letter }; at = at } ∷ []) same

  pub others_renumbered : is_down p ≡ false → (m k : ℕ)
      → map (renumbered (count_from n.arcs (node_of p)) (ups + downs)) (ways_from plain (node_of p) time letters (count_from n.arcs (node_of p) + k) m) ≡ from (ups + downs + k) m
  others_renumbered first zero k = refl
  others_renumbered first (suc m) k =
      let f = renumbered (count_from n.arcs (node_of p)) (ups + downs) in
      let here = count_from n.arcs (node_of p) + k in
      let next : here + 1 ≡ count_from n.arcs (node_of p) + (k + 1) = omega arith in
      let there : ups + downs + (k + 1) ≡ ups + downs + k + 1 = omega arith in
      let more = others_renumbered first m (k + 1) in
      map-append f (way_at plain (node_of p) time letters here) (ways_from plain (node_of p) time letters (here + 1) m)
      ∙ ap (λ (ws : List Way). ws ++ map f (ways_from plain (node_of p) time letters (here + 1) m)) (one_renumbered first k)
      ∙ ap (λ x. way_at g p time letters (ups + downs + k) ++ map f (ways_from plain (node_of p) time letters x m)) next
      ∙ ap (λ (ws : List Way). way_at g p time letters (ups + downs + k) ++ ws) (more ∙ ap (λ x. from x m) there)

  -- the plain graph's ways behind the road arcs, and how they are numbered anew
  abbrev past_roads : List Way
  past_roads = ways_from plain (node_of p) time letters (count_from n.arcs (node_of p)) (count_from n.links (node_of p) + inner_arcs_at n t (node_of p))

  abbrev anew : Way → Way
  anew = renumbered (count_from n.arcs (node_of p)) (ups + downs)

  all_renumbered : is_down p ≡ false → map anew past_roads ≡ from (ups + downs) (others_at n t (node_of p) (is_down p))
  all_renumbered first =
      let m = count_from n.links (node_of p) + inner_arcs_at n t (node_of p) in
      let here : count_from n.arcs (node_of p) ≡ count_from n.arcs (node_of p) + 0 = omega arith in
      let now : ups + downs + 0 ≡ ups + downs = omega arith in
      ap (λ k. map anew (ways_from plain (node_of p) time letters k m)) here
      ∙ others_renumbered first m 0 ∙ ap (λ k. from k m) now ∙ ap (λ d. from (ups + downs) (others_at n t (node_of p) d)) (sym first)

  -- the fresh ones of them that were put behind a list are numbered anew there
  pub put_fresh_behind : is_down p ≡ false → (state : ℕ) (old new : GivenRuns) (before mid after : List Way)
      → AddsFresh (plain_rides n t) state old new past_roads before mid → after ≡ take (length before) mid ++ map anew (drop (length before) mid)
      → AddsFresh (phase_rides n t) state old new (from (ups + downs) (others_at n t (node_of p) (is_down p))) before after
  put_fresh_behind first state old new before mid after (fresh, e, are) done = (
    map anew fresh,
    behind_seam anew before fresh mid after e done,
    subst (λ (ws : List Way). AreFresh (phase_rides n t) state old new ws (map anew fresh)) (all_renumbered first)
        (fresh_elsewhere before_descent anew (renumbered 0 0) (leads_before (count_from n.arcs (node_of p)) (ups + downs)) (leads_before 0 0) (plain_rides n t) state old new past_roads fresh are),
  )

  -- behind the entries, all arcs with a letter stand still, where no move by that leads to another state
  others_stand : (leaving : ℕ) → is_open leaving letter ≡ false → (k at c : ℕ) → ups + downs ≤ k → g.arrive p k time ≡ Some at → (g.arc_at p k).letter ≡ Some c
      → StandsStill p time leaving (record { place = k; arc = g.arc_at p k; at = at })
  others_stand leaving closed k at c from arrives is =
      let place = first_other n (node_of p) (is_down p) + (k - ups - downs) in
      let here : k ≡ ups + downs + (place - first_other n (node_of p) (is_down p)) = omega (arith, from) in
      let there : arc_there k ≡ Other place = ap arc_there here ∙ other_is n h (node_of p) (is_down p) place (omega arith) in
      let arc : g.arc_at p k ≡ arc_of n t h (node_of p) (is_down p) (Other place) = ap (arc_of n t h (node_of p) (is_down p)) there in
      let letter_is : (g.arc_at p k).letter ≡ (plain.arc_at (node_of p) place).letter = ap (λ (a : GraphArc). a.letter) arc in
      let stand = past_roads_stand n t (node_of p) time leaving closed place at c (omega arith)
      (sym (ap (phase_arrival n t h marks (node_of p) time) there) ∙ arrives) (sym letter_is ∙ is) in
      let to : phase_node (plain.arc_at (node_of p) place).to (is_down p) ≡ p = ap (λ w. phase_node w (is_down p)) stand.to ∙ whole p in
      record {
        to = ap (λ (a : GraphArc). a.to) arc ∙ to;
        at = stand.at;
        letter = stand.letter;
        by = letter_is ∙ stand.by;
        stays = stand.stays;
      }

  -- those that lead up, and then those that fall
  pub all_along : (before first second : List Way) → first ≡ before ++ from 0 ups → second ≡ first ++ from ups downs → second ≡ before ++ from 0 (ups + downs)
  all_along before first second rises falls =
      let here : 0 + ups ≡ ups = omega arith in
      falls ∙ ap (λ (ws : List Way). ws ++ from ups downs) rises ∙ append_assoc before (from 0 ups) (from ups downs)
      ∙ ap (λ (ws : List Way). before ++ ws) (sym (ways_split g p time letters 0 ups downs ∙ ap (λ k. from 0 ups ++ from k downs) here))

  -- those along entries from one place on, and what is fresh of the others, of which those that stand still are not asked for
  pub moving_joined : (asked leaving state start count : ℕ) (old new : GivenRuns) (before first second : List Way) → asked ≡ moving_letters letters leaving letter → start + count ≡ ups + downs
      → first ≡ before ++ from start count → AddsFresh (phase_rides n t) state old new (ways_from g p time asked (ups + downs) (others_at n t (node_of p) (is_down p))) first second
      → AddsMoving (phase_rides n t) (record { node = p; at = time; state = state; letters = letters; leaving = leaving }) old new (ways_past g p time letters start) before second
  moving_joined asked leaving state start count old new before first second is whole along adds =
      let others = others_at n t (node_of p) (is_down p) in
      let rest : ups + downs + others - start ≡ count + others = omega (arith, whole) in
      let moving : List Way = ways_from g p time asked (ups + downs) others in
      let split : ways_past g p time letters start ≡ from start count ++ from (ups + downs) others =
      ap (from start) rest ∙ ways_split g p time letters start count others ∙ ap (λ k. from start count ++ from k others) whole in (
        from start count ++ moving,
        subst (λ (ws : List Way). AreMoving p time leaving ws (from start count ++ moving)) (sym split)
            (moving_append p time leaving (from start count) (from (ups + downs) others) (from start count) moving (moving_all p time leaving (from start count))
            (subst (λ x. AreMoving p time leaving (from (ups + downs) others) (ways_from g p time x (ups + downs) others)) (sym is)
            (moving_asked g p time letters leaving (ups + downs) letter (others_stand leaving) (ups + downs) others (omega arith)))),
        adds_more (phase_rides n t) state old old new (from start count) moving before first second (adds_all (phase_rides n t) state old (from start count) before first along) adds,
      )

-- where nothing falls from a node before the descent, and nothing but road arcs leaves it in the plain graph, no ways are left but those along legs
pub none_left : (n : NetworkLists) (h : HierarchyLists) (t : TableLists) (marks : List Bool) (p time letters leaving state : ℕ) (given : GivenRuns) → is_down p ≡ false
    → falls_from h marks (first_entry h (node_of p)) (entries_at h (node_of p)) ≡ []
    → ways_from (plain_meaning n t) (node_of p) time (moving_letters letters leaving (letter_at n.roads (node_of p))) (count_from n.arcs (node_of p))
    (count_from n.links (node_of p) + inner_arcs_at n t (node_of p)) ≡ []
    → AddsMoving (phase_rides n t) (visit_by p time state letters leaving) given given (ways_past (phase_meaning n t h marks) p time letters (length (rises_at h (node_of p) (is_down p)))) [] []
none_left n h t marks p time letters leaving state given first ended none =
    let v = node_of p in
    let asked = moving_letters letters leaving (letter_at n.roads v) in
    moving_joined n h t marks p time letters asked leaving state (length (rises_at h v (is_down p))) (entries_at h v) given given [] [] [] refl refl
    (falls_ended n h t marks p time letters [] ended)
    (adds_all (phase_rides n t) state given _ [] [] (ap (map (anew n h t marks p time asked)) (sym none) ∙ all_renumbered n h t marks p time asked first))

-- ---- ways numbered anew, in their list

module _ (f : Way → Way) (old : List Way) (b : ℕ) where
  -- those before one place, where all from another on are changed
  abbrev pub changed : ℕ → List Way
  changed k = take b old ++ map f (take (k - b) (drop b old))

  changed_length : (k : ℕ) → b ≤ k → k ≤ length old → length (changed k) ≡ k
  changed_length k from within =
      length-append (take b old) (map f (take (k - b) (drop b old)))
      ∙ omega (arith, length-take-le b old (omega arith), length-map (take (k - b) (drop b old)) f, length-take-le (k - b) (drop b old) (omega (arith, length-drop b old)))

  pub change_more : (k : ℕ) (now : List Way) (w : Way) → b ≤ k → k < length old → w ≡ get_or now k w → now ≡ changed k ++ drop k old → set now k (f w) ≡ changed (k + 1) ++ drop (k + 1) old
  change_more k now w from lt at is =
      let x = get_or old k w in
      let next : drop k old ≡ x ∷ drop (k + 1) old = drop_more old k w lt in
      let whole : now ≡ changed k ++ x ∷ drop (k + 1) old = is ∙ ap (λ (ws : List Way). changed k ++ ws) next in
      let long = changed_length k from (omega arith) in
      let same : w ≡ x = at ∙ ap (λ (ws : List Way). get_or ws k w) whole ∙ ap (λ i. get_or (changed k ++ x ∷ drop (k + 1) old) i w) (sym long) ∙ get_or-append_seam (changed k) x (drop (k + 1) old) w in
      let inside : k - b < length (drop b old) = omega (arith, length-drop b old) in
      let back : b + (k - b) ≡ k = omega arith in
      let count : k + 1 - b ≡ (k - b) + 1 = omega arith in
      let last : take (k + 1 - b) (drop b old) ≡ take (k - b) (drop b old) ++ x ∷ [] =
      ap (λ i. take i (drop b old)) count ∙ take_more (drop b old) (k - b) w inside ∙ ap (λ (y : Way). take (k - b) (drop b old) ++ y ∷ []) (get_or-drop b old (k - b) w ∙ ap (λ i. get_or old i w) back) in
      ap (λ (ws : List Way). set ws k (f w)) whole ∙ ap (λ i. set (changed k ++ x ∷ drop (k + 1) old) i (f w)) (sym long)
      ∙ set-append_seam (changed k) x (drop (k + 1) old) (f w)
      ∙ ap (λ (y : Way). changed k ++ f y ∷ drop (k + 1) old) same
      ∙ sym (append_assoc (changed k) (f x ∷ []) (drop (k + 1) old))
      ∙ ap (λ (ws : List Way). ws ++ drop (k + 1) old)
      (append_assoc (take b old) (map f (take (k - b) (drop b old))) (f x ∷ []) ∙ ap (λ (ws : List Way). take b old ++ ws) (sym (map-append f (take (k - b) (drop b old)) (x ∷ [])) ∙ ap (map f) (sym last)))

  -- what is changed next is as it was
  pub change_next : (k : ℕ) (now : List Way) (w : Way) → b ≤ k → k < length old → now ≡ changed k ++ drop k old → get_or now k w ≡ get_or old k w
  change_next k now w from lt is =
      let x = get_or old k w in
      let next : drop k old ≡ x ∷ drop (k + 1) old = drop_more old k w lt in
      let long = changed_length k from (omega arith) in
      ap (λ (ws : List Way). get_or ws k w) (is ∙ ap (λ (ws : List Way). changed k ++ ws) next) ∙ ap (λ i. get_or (changed k ++ x ∷ drop (k + 1) old) i w) (sym long) ∙ get_or-append_seam (changed k) x (drop (k + 1) old) w

-- ---- how many there are

few_rides : (t : TableLists) → IsTable t → (o : Option ℕ) → length (rides_from_stop t o) < 2 ^ 63
few_rides t table None = omega arith
few_rides t table (Some stop) = rides_few t table stop

few_stand : (o : Option ℕ) → cond (is_some o) 1 0 ≤ 1
few_stand None = omega arith
few_stand (Some mode) = omega arith

pub few_arcs : (n : NetworkLists) → IsNetwork n → (t : TableLists) → IsTable t → (v : ℕ) → count_from n.links v + inner_arcs_at n t v < 2 ^ 63 + 2 ^ 34
few_arcs n network t table v =
    let range = range_is_range n.links v in
    let links = network.few_links in
    let stands = few_stand (letter_at n.roads v) in
    let rides = few_rides t table (stop_at n v) in
    omega (arith, range.1, links, stands, rides)

-- the ways behind the road arcs of a node can be numbered anew
module _ (n : NetworkLists) (network : IsNetwork n) (t : TableLists) (table : IsTable t) (of : IsTimetableOf n t) (v time letters : ℕ) (node : v < length (nodes_of n)) where
  one_fits : (k : ℕ) → k < count_from n.links v + inner_arcs_at n t v → All (FitsAnew (count_from n.arcs v)) (way_at (plain_meaning n t) v time letters (count_from n.arcs v + k))
  one_fits k lt =
      by_tests (is_open letters ((plain_meaning n t).arc_at v place).letter) ((plain_meaning n t).arrive v place time)
    where
      place : ℕ
      place = count_from n.arcs v + k

      arc : GraphArc
      arc = (plain_meaning n t).arc_at v place

      low : arc.to < 2 ^ 31
      low =
          let to = (plain_lawful n network t table of).to_in_range v place (record { node = node; arc = omega (arith, lt) }) in
          let few = network.few_nodes in
          omega (arith, to, few)

      by_tests : (b : Bool) (o : Option ℕ) → All (FitsAnew (count_from n.arcs v)) (cond b (way_if place arc o) [])
      by_tests false o = All-nil (FitsAnew (count_from n.arcs v))
      by_tests true None = All-nil (FitsAnew (count_from n.arcs v))
      by_tests true (Some at) =
          All-cons (FitsAnew (count_from n.arcs v)) (record { place = place; arc = arc; at = at }) []
          (record { behind = omega arith; few = (let all = few_arcs n network t table v in omega (arith, lt, all)); node = low }) (All-nil (FitsAnew (count_from n.arcs v)))

  fit_anew : (m k : ℕ) → k + m ≤ count_from n.links v + inner_arcs_at n t v → All (FitsAnew (count_from n.arcs v)) (ways_from (plain_meaning n t) v time letters (count_from n.arcs v + k) m)
  fit_anew zero k within = All-nil (FitsAnew (count_from n.arcs v))
  fit_anew (suc m) k within =
      let next : count_from n.arcs v + k + 1 ≡ count_from n.arcs v + (k + 1) = omega arith in
      All-append (FitsAnew (count_from n.arcs v)) (way_at (plain_meaning n t) v time letters (count_from n.arcs v + k)) (ways_from (plain_meaning n t) v time letters (count_from n.arcs v + k + 1) m)
      (one_fits k (omega (arith, within)))
      (subst (λ x. All (FitsAnew (count_from n.arcs v)) (ways_from (plain_meaning n t) v time letters x m)) (sym next) (fit_anew m (k + 1) (omega (arith, within))))

  -- and so can those of them that are put behind a list
  pub some_fit : (before more mid : List Way) → mid ≡ before ++ more
      → All (Contains (ways_from (plain_meaning n t) v time letters (count_from n.arcs v) (count_from n.links v + inner_arcs_at n t v))) more
      → All (FitsAnew (count_from n.arcs v)) (drop (length before) mid)
  some_fit before more mid e are =
      let roads = count_from n.arcs v in
      let m = count_from n.links v + inner_arcs_at n t v in
      let past = ways_from (plain_meaning n t) v time letters roads m in
      let here : roads + 0 ≡ roads = omega arith in
      let all : All (FitsAnew roads) past = subst (λ k. All (FitsAnew roads) (ways_from (plain_meaning n t) v time letters k m)) here (fit_anew m 0 (omega arith)) in
      subst (All (FitsAnew roads)) (sym (ap (drop (length before)) e ∙ drop-append_seam before more))
      (All-weaker (Contains past) (FitsAnew roads) (λ way has. All-contains (FitsAnew roads) past way all has) more are)

pub few_others : (n : NetworkLists) → IsNetwork n → (t : TableLists) → IsTable t → (v : ℕ) (down : Bool) → others_at n t v down < 2 ^ 63 + 2 ^ 34
few_others n network t table v false = few_arcs n network t table v
few_others n network t table v true = let stands = few_stand (letter_at n.roads v) in omega (arith, stands)
