-- What every map's objects keep.
use Rattle.plan_base.proofs.Common.{◌≡◌, ℕ, List, [], ◌∷◌, length, map, filter, refl, subst, arith, Bool, true, false, not, cond, ℤ, Option, Some, None, Ok, Result, filter_map, option_map, nat_le, AllByRecursion, IsDistinct, cons_option, slice_split, onto_first, int_eq, nat_tests, IsDistinct-cons, IsDistinct-head, IsDistinct-tail}
use Rattle.plan_base.specs.{Caps, Place}
use Rattle.plain_texts.specs.{lines_of}
use Rattle.opl_reader.specs.{OplFault, OsmNode, Line, Passed, Bad, NodeLine, WayLine, map_line_of, ids_of, is_placed, IsOsmId, IsPiece, AreObjects, nodes_on, ways_on, placed, placed_on, first_line_fault, faultless, cut_way, objects_on, objects_of, declared.lines.Line.TheVariants.Node, declared.lines.Line.TheVariants.Way, ObjectLists.ObjectLists}
use Rattle.opl_reader.proofs.{IdLemmas.HasId, IdLemmas.lines_have_ids, PlacedLemmas.node_id, PlacedLemmas.at_place, PlacedLemmas.nothing_distinct, PlacedLemmas.distinct_nodes}

-- the nodes that have a place keep what all visible nodes keep of their ids
ids_kept : (P : ℤ → Type 0) (nodes : List NodeLine) → AllByRecursion P (map node_id nodes) → AllByRecursion P (ids_of (filter_map placed nodes))
ids_kept P [] h = tt
ids_kept P (node ∷ nodes) h = by_place node.place (ids_kept P nodes h.1)
  where
    by_place : (o : Option Place) → AllByRecursion P (ids_of (filter_map placed nodes)) → AllByRecursion P (ids_of (cons_option (option_map (at_place node) o) (filter_map placed nodes)))
    by_place None rest = rest
    by_place (Some place) rest = (h.0, rest)

distinct_placed : (nodes : List NodeLine) → IsDistinct int_eq (map node_id nodes) → IsDistinct int_eq (ids_of (filter_map placed nodes))
distinct_placed [] h = nothing_distinct
distinct_placed (node ∷ nodes) h = by_place node.place (distinct_placed nodes (IsDistinct-tail int_eq node.id (map node_id nodes) h))
  where
    by_place : (o : Option Place) → IsDistinct int_eq (ids_of (filter_map placed nodes)) → IsDistinct int_eq (ids_of (cons_option (option_map (at_place node) o) (filter_map placed nodes)))
    by_place None rest = rest
    by_place (Some place) rest =
        IsDistinct-cons int_eq node.id (ids_of (filter_map placed nodes)) (ids_kept (λ y. int_eq node.id y ≡ false) nodes (IsDistinct-head int_eq node.id (map node_id nodes) h)) rest

-- a cut leaves placed nodes alone
cut_placed : (has_place : ℤ → Bool) (ids : List ℤ) → AllByRecursion (AllByRecursion (λ id. has_place id ≡ true)) (slice_split (λ id. not (has_place id)) ids)
cut_placed has_place [] = (tt, tt)
cut_placed has_place (id ∷ ids) = by_test (has_place id) refl (slice_split (λ id. not (has_place id)) ids) (cut_placed has_place ids)
  where
    by_test : (t : Bool) → has_place id ≡ t → (pieces : List (List ℤ)) → AllByRecursion (AllByRecursion (λ id. has_place id ≡ true)) pieces
        → AllByRecursion (AllByRecursion (λ id. has_place id ≡ true)) (cond (not t) ([] ∷ pieces) (onto_first id pieces))
    by_test false is pieces h = (tt, h)
    by_test true is [] h = ((is, tt), tt)
    by_test true is (piece ∷ pieces) h = ((is, h.0), h.1)

long_pieces : (nodes : List OsmNode) (pieces : List (List ℤ)) → AllByRecursion (AllByRecursion (λ id. is_placed nodes id ≡ true)) pieces → AllByRecursion (IsPiece nodes) (filter (λ piece. nat_le 2 (length piece)) pieces)
long_pieces nodes [] h = tt
long_pieces nodes (piece ∷ pieces) h = by_test (nat_le 2 (length piece)) refl (long_pieces nodes pieces h.1)
  where
    by_test : (t : Bool) → nat_le 2 (length piece) ≡ t → AllByRecursion (IsPiece nodes) (filter (λ piece. nat_le 2 (length piece)) pieces)
        → AllByRecursion (IsPiece nodes) (cond t (piece ∷ filter (λ piece. nat_le 2 (length piece)) pieces) (filter (λ piece. nat_le 2 (length piece)) pieces))
    by_test true is rest = (record { some = grind (arith, nat_tests, is); placed = h.0 }, rest)
    by_test false is rest = rest

cut_ways : (nodes : List OsmNode) (ways : List WayLine) → AllByRecursion (λ way. AllByRecursion (IsPiece nodes) way.pieces) (map (cut_way (is_placed nodes)) ways)
cut_ways nodes [] = tt
cut_ways nodes (way ∷ ways) = (long_pieces nodes _ (cut_placed (is_placed nodes) way.references), cut_ways nodes ways)

nodes_have_ids : (lines : List Line) → AllByRecursion HasId lines → AllByRecursion IsOsmId (map node_id (nodes_on lines))
nodes_have_ids [] h = tt
nodes_have_ids (Passed ∷ lines) h = nodes_have_ids lines h.1
nodes_have_ids (Bad ∷ lines) h = nodes_have_ids lines h.1
nodes_have_ids (Way way ∷ lines) h = nodes_have_ids lines h.1
nodes_have_ids (Node node ∷ lines) h = (h.0, nodes_have_ids lines h.1)

ways_have_ids : (has_place : ℤ → Bool) (lines : List Line) → AllByRecursion HasId lines → AllByRecursion (λ way. IsOsmId way.id) (map (cut_way has_place) (ways_on lines))
ways_have_ids has_place [] h = tt
ways_have_ids has_place (Passed ∷ lines) h = ways_have_ids has_place lines h.1
ways_have_ids has_place (Bad ∷ lines) h = ways_have_ids has_place lines h.1
ways_have_ids has_place (Node node ∷ lines) h = ways_have_ids has_place lines h.1
ways_have_ids has_place (Way way ∷ lines) h = (h.0, ways_have_ids has_place lines h.1)

of_nodes : (nodes : List OsmNode) → AllByRecursion IsOsmId (ids_of nodes) → AllByRecursion (λ node. IsOsmId node.id) nodes
of_nodes [] h = tt
of_nodes (node ∷ nodes) h = (h.0, of_nodes nodes h.1)

sound_lines : (caps : Caps) (lines : List Line) → AllByRecursion HasId lines → first_line_fault caps [] lines ≡ None → AreObjects (objects_on lines)
sound_lines caps lines ids none = record {
  distinct = distinct_placed (nodes_on lines) (distinct_nodes caps [] lines none nothing_distinct);
  pieces = cut_ways (placed_on lines) (ways_on lines);
  node_ids = of_nodes (placed_on lines) (ids_kept IsOsmId (nodes_on lines) (nodes_have_ids lines ids));
  way_ids = ways_have_ids (is_placed (placed_on lines)) lines ids;
}

-- what a text gives keeps the rules
pub sound_text : (caps : Caps) (text : List ℕ) (objects : ObjectLists) → objects_of caps text ≡ Ok objects → AreObjects objects
unfolding objects_of
sound_text caps text objects e = by_fault (first_line_fault caps [] (map map_line_of (lines_of text))) refl e
  where
    ok_is : (x y : ObjectLists) → ◌≡◌ {A = Result ObjectLists OplFault} (Ok x) (Ok y) → x ≡ y
    ok_is x y e = cc

    by_fault : (o : Option OplFault) → first_line_fault caps [] (map map_line_of (lines_of text)) ≡ o → faultless o (objects_on (map map_line_of (lines_of text))) ≡ Ok objects → AreObjects objects
    by_fault None is e = subst AreObjects (ok_is _ objects e) (sound_lines caps (map map_line_of (lines_of text)) (lines_have_ids (lines_of text)) is)
    by_fault (Some fault) is e = absurd cc
