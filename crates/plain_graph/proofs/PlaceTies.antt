-- The road arcs, the links and the arc that stands, as the ways at their places.
use Rattle.plan_base.proofs.Common.{◌≡◌, ℕ, ◌+◌, ◌-◌, ◌<◌, ◌≤◌, ◌⊎◌, inl, inr, Bool, nat_lt, List, [], ◌∷◌, ◌++◌, length, true, false, cond, Some, None, refl, sym, ◌∙◌, ap, append_assoc, append-nil, arith, Option, map, slice_index_or, is_some, false≢true, le-ltb, lt-ltb, get_or-map, length-map}
use Rattle.std.proofs.lemmas.List.Edits.{length-between, get_or-between}
use Rattle.search_laws.specs.{is_open, open_way, way_at, ways_from, IsLeg, Leg, Way, StandsStill}
use Rattle.search_laws.proofs.{FreshLemmas.closed_unset, WayLemmas.ways_more, WayLemmas.ways_split}
use Rattle.timetable_arcs.specs.{TableLists, rides_at, boards_at}
use Rattle.mode_network.specs.{Arc, letter_at, stop_at, range_from, leg_of, legs_from, NetworkLists.NetworkLists}
use Rattle.mode_network.proofs.IndexLemmas.{range_is_range}
use Rattle.plain_graph.specs.{PlainArc, Road, Link, Stand, plain_arc, plain_meaning, graph_arc, arrival, count_from, stands_at, rides_of, rides_from_stop, inner_arcs_at, no_arc, boards_ways, inside.stop_found, inside.no_mode}
use Rattle.plain_graph.proofs.BoardTies.{stop_ways}

-- the legs of a node are those of its road arcs
module _ (n : NetworkLists) (v : ℕ) where
  abbrev road : ℕ → Arc
  road i = slice_index_or n.arcs ((range_from n.arcs v).0 + i) no_arc

  pub legs_count : length (legs_from n.arcs v) ≡ count_from n.arcs v
  legs_count =
      length-between (map leg_of n.arcs) (range_from n.arcs v).0 (range_from n.arcs v).1 (omega (arith, (range_is_range n.arcs v).1, length-map n.arcs leg_of))

  pub leg_at : (i : ℕ) (d : Leg) → i < count_from n.arcs v → slice_index_or (legs_from n.arcs v) i d ≡ leg_of (road i)
  leg_at i d lt =
      get_or-between (map leg_of n.arcs) (range_from n.arcs v).0 (range_from n.arcs v).1 i d (omega arith)
      ∙ get_or-map leg_of n.arcs ((range_from n.arcs v).0 + i) no_arc d (omega (arith, (range_is_range n.arcs v).1))

module _ (n : NetworkLists) (t : TableLists) (v : ℕ) where
  -- the first places are the road arcs'
  pub road_at : (i : ℕ) → i < count_from n.arcs v → plain_arc n t v i ≡ Road (road n v i)
  road_at i lt = let inside = lt-ltb i (count_from n.arcs v) lt in rw inside refl

  pub road_leg : (i : ℕ) (d : Leg) → i < count_from n.arcs v → IsLeg (plain_meaning n t) v i (slice_index_or (legs_from n.arcs v) i d)
  road_leg i d lt = record {
    to = ap (λ (leg : Leg). leg.to) (leg_at n v i d lt) ∙ sym (ap (λ (a : PlainArc). (graph_arc n t v a).to) (road_at i lt));
    time = λ time. ap (arrival t time) (road_at i lt) ∙ sym (ap (λ (leg : Leg). Some (time + leg.ms)) (leg_at n v i d lt));
  }

module _ (n : NetworkLists) (t : TableLists) (time letters v : ℕ) where
  abbrev from : ℕ → ℕ → List Way
  from i k = ways_from (plain_meaning n t) v time letters i k

  abbrev roads : ℕ
  roads = count_from n.arcs v

  abbrev links : ℕ
  links = count_from n.links v

  -- a known arc at a place
  way_is : (place : ℕ) (a : PlainArc) → plain_arc n t v place ≡ a → way_at (plain_meaning n t) v time letters place ≡ open_way letters place (graph_arc n t v a) (arrival t time a)
  way_is place a is = ap (λ (x : PlainArc). open_way letters place (graph_arc n t v x) (arrival t time x)) is

  -- one way more
  pushed : (start i : ℕ) (way : Way) (before now next : List Way) → now ≡ before ++ from start i → way_at (plain_meaning n t) v time letters (start + i) ≡ way ∷ [] → next ≡ now ++ way ∷ []
      → next ≡ before ++ from start (i + 1)
  pushed start i way before now next first is push =
      push ∙ ap (λ (ws : List Way). ws ++ way ∷ []) first ∙ append_assoc before (from start i) (way ∷ [])
      ∙ ap (λ (ws : List Way). before ++ (from start i ++ ws)) (sym is) ∙ ap (λ (ws : List Way). before ++ ws) (sym (ways_more (plain_meaning n t) v time letters start i))

  abbrev link : ℕ → Arc
  link i = slice_index_or n.links ((range_from n.links v).0 + i) no_arc

  link_at : (i : ℕ) → i < links → plain_arc n t v (roads + i) ≡ Link (link i)
  link_at i lt =
      let past = le-ltb (roads + i) roads (omega arith) in
      let back : roads + i - roads ≡ i = omega arith in
      let inside = lt-ltb i links lt in
      rw (past, back, inside) refl

  pub link_pushed : (i : ℕ) (before now next : List Way) → i < links → now ≡ before ++ from roads i
      → next ≡ now ++ record { place = roads + i; arc = record { to = (link i).to; letter = None }; at = time + (link i).ms } ∷ [] → next ≡ before ++ from roads (i + 1)
  link_pushed i before now next lt first push =
      pushed roads i (record { place = roads + i; arc = record { to = (link i).to; letter = None }; at = time + (link i).ms }) before now next first (way_is (roads + i) (Link (link i)) (link_at i lt)) push

  -- ---- the arc that stands, or the rides

  pub stand_at : (mode : ℕ) → letter_at n.roads v ≡ Some mode → plain_arc n t v (roads + links) ≡ Stand
  stand_at mode has =
      let past_roads = le-ltb (roads + links) roads (omega arith) in
      let past_links = le-ltb (roads + links - roads) links (omega arith) in
      let some : is_some (letter_at n.roads v) ≡ true = ap is_some has in
      rw (past_roads, past_links, some) refl

  -- where one stands no ride begins
  no_stop : (mode : ℕ) → letter_at n.roads v ≡ Some mode → (o : Option ℕ) → stop_at n v ≡ o → length (rides_from_stop t o) ≡ 0
  no_stop mode has None e = refl
  no_stop mode has (Some stop) e =
      let at = (stop_found n v stop e).1 in
      let none : letter_at n.roads v ≡ None = ap (letter_at n.roads) at ∙ no_mode n stop in
      cc

  one_stands : (mode : ℕ) → letter_at n.roads v ≡ Some mode → inner_arcs_at n t v ≡ 1
  one_stands mode has =
      let one : stands_at n v ≡ 1 = ap (λ (o : Option ℕ). cond (is_some o) 1 0) has in
      omega (arith, one, no_stop mode has (stop_at n v) refl)

  inner_is : (mode : ℕ) → letter_at n.roads v ≡ Some mode → from (roads + links) (inner_arcs_at n t v) ≡ open_way letters (roads + links) (record { to = v; letter = Some mode }) (Some time)
  inner_is mode has =
      ap (from (roads + links)) (one_stands mode has) ∙ append-nil (way_at (plain_meaning n t) v time letters (roads + links))
      ∙ way_is (roads + links) Stand (stand_at mode has) ∙ ap (λ (o : Option ℕ). open_way letters (roads + links) (record { to = v; letter = o }) (Some time)) has

  pub stand_ways : (mode : ℕ) → letter_at n.roads v ≡ Some mode → is_open letters (Some mode) ≡ true
      → from (roads + links) (inner_arcs_at n t v) ≡ record { place = roads + links; arc = record { to = v; letter = Some mode }; at = time } ∷ []
  stand_ways mode has opens = inner_is mode has ∙ rw opens refl

  pub stand_closed : (mode : ℕ) → letter_at n.roads v ≡ Some mode → is_open letters (Some mode) ≡ false → from (roads + links) (inner_arcs_at n t v) ≡ []
  stand_closed mode has closed = inner_is mode has ∙ rw closed refl

  -- where no link begins, and one stands by a letter that is not asked for, nothing is left
  pub none_past_roads : (mode : ℕ) → letter_at n.roads v ≡ Some mode → links ≡ 0 → is_open letters (Some mode) ≡ false → from roads (links + inner_arcs_at n t v) ≡ []
  none_past_roads mode has none closed =
      ways_split (plain_meaning n t) v time letters roads links (inner_arcs_at n t v) ∙ ap (λ k. from roads k ++ from (roads + links) (inner_arcs_at n t v)) none ∙ stand_closed mode has closed

  pub rides_ways : (stop : ℕ) → letter_at n.roads v ≡ None → stop_at n v ≡ Some stop
      → from (roads + links) (inner_arcs_at n t v) ≡ boards_ways n t time letters (roads + links) (boards_at t stop)
  rides_ways stop none found =
      let stands : stands_at n v ≡ 0 = ap (λ (o : Option ℕ). cond (is_some o) 1 0) none in
      let count : length (rides_of n t v) ≡ length (rides_at t stop) = ap (λ (o : Option ℕ). length (rides_from_stop t o)) found in
      let all : inner_arcs_at n t v ≡ length (rides_at t stop) = omega (arith, stands, count) in
      ap (from (roads + links)) all ∙ stop_ways n t time letters v stop found none

-- behind the road arcs of a road node come its links, and one that stands
module _ (n : NetworkLists) (t : TableLists) (v mode : ℕ) (has : letter_at n.roads v ≡ Some mode) where
  pub link_or_stand : (k : ℕ) → count_from n.arcs v ≤ k → ((x : Arc) × (plain_arc n t v k ≡ Link x)) ⊎ (plain_arc n t v k ≡ Stand)
  link_or_stand k from = go (nat_lt (k - count_from n.arcs v) (count_from n.links v)) refl where
    past : nat_lt k (count_from n.arcs v) ≡ false
    past = le-ltb k (count_from n.arcs v) from

    some : is_some (letter_at n.roads v) ≡ true
    some = ap is_some has

    go : (b : Bool) → nat_lt (k - count_from n.arcs v) (count_from n.links v) ≡ b → ((x : Arc) × (plain_arc n t v k ≡ Link x)) ⊎ (plain_arc n t v k ≡ Stand)
    go true e = inl (slice_index_or n.links ((range_from n.links v).0 + (k - count_from n.arcs v)) no_arc, rw (past, e) refl)
    go false e = inr (rw (past, e, some) refl)

-- so each of them with a letter stands still, where no move by that leads to another state
pub past_roads_stand : (n : NetworkLists) (t : TableLists) (v time leaving : ℕ) → is_open leaving (letter_at n.roads v) ≡ false → (k at c : ℕ) → count_from n.arcs v ≤ k
    → (plain_meaning n t).arrive v k time ≡ Some at → ((plain_meaning n t).arc_at v k).letter ≡ Some c
    → StandsStill v time leaving (record { place = k; arc = (plain_meaning n t).arc_at v k; at = at })
past_roads_stand n t v time leaving closed k at c from arrives is = by_mode (letter_at n.roads v) refl where
  by_mode : (o : Option ℕ) → letter_at n.roads v ≡ o → StandsStill v time leaving (record { place = k; arc = (plain_meaning n t).arc_at v k; at = at })
  by_mode None e = absurd (false≢true (sym closed ∙ ap (is_open leaving) e))
  by_mode (Some mode) e = elim (link_or_stand n t v mode e k from) [
    | inl (x, link) ↦ (let none : None ≡ Some c = sym (ap (λ (a : PlainArc). (graph_arc n t v a).letter) link) ∙ is in cc)
    | inr stand ↦ (let now : Some time ≡ Some at = sym (ap (arrival t time) stand) ∙ arrives in
        let same : time ≡ at = cc in
        let letter : letter_at n.roads v ≡ Some c = sym (ap (λ (a : PlainArc). (graph_arc n t v a).letter) stand) ∙ is in
        record {
          to = ap (λ (a : PlainArc). (graph_arc n t v a).to) stand;
          at = sym same;
          letter = c;
          by = is;
          stays = closed_unset leaving c (ap (is_open leaving) (sym letter) ∙ closed);
        })
  ]

pub nothing_more : (before more : List Way) → more ≡ [] → before ≡ before ++ more
nothing_more before more none = sym (append-nil before) ∙ ap (λ (ws : List Way). before ++ ws) (sym none)

pub these_more : (before after ways known : List Way) → ways ≡ known → after ≡ before ++ known → after ≡ before ++ ways
these_more before after ways known is e = e ∙ ap (λ (ws : List Way). before ++ ws) (sym is)
