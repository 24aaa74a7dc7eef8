-- Which nodes have a place, and that no two visible nodes have one id.
use Rattle.plan_base.proofs.Common.{◌≡◌, List, [], ◌∷◌, ◌++◌, map, refl, sym, ap, subst, ◌∙◌, Bool, true, false, cond, ◌||◌, append_assoc, ℤ, Option, Some, None, is_some, filter_map, option_map, option_or, unwrap_or, list_any, cons_option, AllByRecursion, lookup, int_eq, int_eq_equiv, Decides-int_eq, append-nil, map-append, IsDistinct-push, IsDistinct-head, IsDistinct-tail}
use Rattle.std.specs.List.{IsDistinct}
use Rattle.plan_base.specs.{Caps, Place}
use Rattle.opl_reader.specs.{OplFault, OsmNode, Line, Passed, Bad, NodeLine, is_placed, nodes_on, ways_on, placed, placed_on, has_node, fault_behind, first_line_fault, cut_way, objects_on, is_seen_placed, objects_from, declared.lines.Line.TheVariants.Node, declared.lines.Line.TheVariants.Way}
use Rattle.opl_reader.proofs.SeenLemmas.{seen, gathered_on, nodes_more}

abbrev pub node_id : NodeLine → ℤ
node_id node = node.id

abbrev pub at_place : NodeLine → Place → OsmNode
at_place node place = record { id = node.id; place = place; amenity = node.amenity }

-- where no visible node has the id, none with a place has it
absent : (nodes : List NodeLine) (id : ℤ) → AllByRecursion (λ y. int_eq id y ≡ false) (map node_id nodes) → is_placed (filter_map placed nodes) id ≡ false
absent [] id h = refl
absent (node ∷ nodes) id h = by_place node.place (absent nodes id h.1)
  where
    by_place : (o : Option Place) → is_placed (filter_map placed nodes) id ≡ false → is_placed (cons_option (option_map (at_place node) o) (filter_map placed nodes)) id ≡ false
    by_place None rest = rest
    by_place (Some place) rest = rw (h.0, rest) refl

-- a node was seen with a place exactly where one of its id has a place
placed_seen : (nodes : List NodeLine) (id : ℤ) → IsDistinct int_eq (map node_id nodes) → is_seen_placed (map seen nodes) id ≡ is_placed (filter_map placed nodes) id
placed_seen [] id distinct = refl
placed_seen (node ∷ nodes) id distinct =
    by_test (int_eq id node.id) refl node.place (placed_seen nodes id (IsDistinct-tail int_eq node.id (map node_id nodes) distinct))
  where
    by_test : (t : Bool) → int_eq id node.id ≡ t → (o : Option Place) → is_seen_placed (map seen nodes) id ≡ is_placed (filter_map placed nodes) id
        → unwrap_or (cond t (Some (is_some o)) (lookup (int_eq id) (map seen nodes))) false ≡ is_placed (cons_option (option_map (at_place node) o) (filter_map placed nodes)) id
    by_test true is (Some place) rest = rw is refl
    by_test false is (Some place) rest = rw is rest
    by_test false is None rest = rest
    by_test true is None rest =
        let same = (Decides-int_eq id node.id).0 is in
        sym (absent nodes id (subst (λ id. AllByRecursion (λ y. int_eq id y ≡ false) (map node_id nodes)) (sym same) (IsDistinct-head int_eq node.id (map node_id nodes) distinct)))

has_node_is : (nodes : List NodeLine) (id : ℤ) → list_any (int_eq id) (map node_id nodes) ≡ has_node nodes id
has_node_is [] id = refl
has_node_is (node ∷ nodes) id = ap (λ t. int_eq id node.id || t) (has_node_is nodes id)

none_either : (o p : Option OplFault) → option_or o p ≡ None → (o ≡ None) × (p ≡ None)
none_either None p e = (refl, e)
none_either (Some fault) p e = absurd cc

not_repeated : (t : Bool) (fault : OplFault) (o : Option OplFault) → cond t (Some fault) o ≡ None → t ≡ false
not_repeated true fault o e = absurd cc
not_repeated false fault o e = refl

-- a line without a fault keeps the ids of nodes distinct
distinct_more : (caps : Caps) (before : List Line) (line : Line) → fault_behind caps before line ≡ None → IsDistinct int_eq (map node_id (nodes_on before)) → IsDistinct int_eq (map node_id (nodes_on (before ++ line ∷ [])))
distinct_more caps before Passed none distinct = subst (λ nodes. IsDistinct int_eq (map node_id nodes)) (sym (nodes_more before Passed ∙ append-nil (nodes_on before))) distinct
distinct_more caps before Bad none distinct = subst (λ nodes. IsDistinct int_eq (map node_id nodes)) (sym (nodes_more before Bad ∙ append-nil (nodes_on before))) distinct
distinct_more caps before (Way way) none distinct = subst (λ nodes. IsDistinct int_eq (map node_id nodes)) (sym (nodes_more before (Way way) ∙ append-nil (nodes_on before))) distinct
distinct_more caps before (Node node) none distinct =
    let new = has_node_is (nodes_on before) node.id ∙ not_repeated _ _ _ none in
    subst (IsDistinct int_eq) (sym (ap (map node_id) (nodes_more before (Node node)) ∙ map-append node_id (nodes_on before) (node ∷ [])))
    (IsDistinct-push int_eq_equiv (map node_id (nodes_on before)) node.id distinct new)

pub distinct_nodes : (caps : Caps) (before lines : List Line) → first_line_fault caps before lines ≡ None → IsDistinct int_eq (map node_id (nodes_on before)) → IsDistinct int_eq (map node_id (nodes_on (before ++ lines)))
distinct_nodes caps before [] none distinct = subst (λ all. IsDistinct int_eq (map node_id (nodes_on all))) (sym (append-nil before)) distinct
distinct_nodes caps before (line ∷ lines) none distinct =
    let both = none_either (fault_behind caps before line) (first_line_fault caps (before ++ line ∷ []) lines) none in
    subst (λ all. IsDistinct int_eq (map node_id (nodes_on all))) (append_assoc before (line ∷ []) lines)
    (distinct_nodes caps (before ++ line ∷ []) lines both.1 (distinct_more caps before line both.0 distinct))

pub nothing_distinct : IsDistinct int_eq []
unfolding IsDistinct
nothing_distinct = tt

-- what is gathered gives the objects of the lines
pub objects_are : (caps : Caps) (lines : List Line) → first_line_fault caps [] lines ≡ None → objects_from (gathered_on lines) ≡ objects_on lines
objects_are caps lines none =
    let distinct = distinct_nodes caps [] lines none nothing_distinct in
    let same : is_seen_placed (map seen (nodes_on lines)) ≡ is_placed (placed_on lines) = λ j id. placed_seen (nodes_on lines) id distinct j in
    ap (λ has_place. record { nodes = placed_on lines; ways = map (cut_way has_place) (ways_on lines) }) same
