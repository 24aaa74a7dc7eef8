-- What is gathered, told by the lines.
use Rattle.plan_base.proofs.Common.{◌≡◌, ◌+◌, List, [], ◌∷◌, ◌++◌, length, map, refl, sym, ap, ap₂, ◌∙◌, Bool, ◌||◌, true, false, cond, append_assoc, ℤ, Option, Some, None, Ok, Err, is_some, filter_map, option_to_list, sum_by, add-zero, arith, option_or, nat_lt, list_any, cons_option, lookup, int_eq, append-nil, map-append, length-append, filter_map-append, sum_by-append}
use Rattle.plan_base.specs.{Caps, OsmNodes, Ways, Refs}
use Rattle.opl_reader.specs.{OsmNode, OplFault, RepeatedObject, TooMany, Line, Passed, Bad, NodeLine, WayLine, node_on, way_on, nodes_on, ways_on, placed, placed_on, references_on, has_node, has_way, fault_behind, first_line_fault, faultless, GatheredLists, with_line, on_ok, declared.lines.Line.TheVariants.Node, declared.lines.Line.TheVariants.Way}
use Rattle.opl_reader.proofs.LineLemmas.{with_lines}

abbrev pub seen : NodeLine → ℤ × Bool
seen node = (node.id, is_some node.place)

abbrev pub id_of : WayLine → ℤ
id_of way = way.id

-- what is gathered of lines without a fault
abbrev pub gathered_on : List Line → GatheredLists
gathered_on lines = record { lines = length lines; seen_nodes = map seen (nodes_on lines); nodes = placed_on lines; seen_ways = map id_of (ways_on lines); ways = ways_on lines; references = references_on lines }

-- one item more
kept_more : {X Y : Type 0} (h : X → Option Y) (xs : List X) (x : X) → filter_map h (xs ++ x ∷ []) ≡ filter_map h xs ++ filter_map h (x ∷ [])
kept_more h xs x = filter_map-append h xs (x ∷ [])

pub nodes_more : (before : List Line) (line : Line) → nodes_on (before ++ line ∷ []) ≡ nodes_on before ++ nodes_on (line ∷ [])
nodes_more before line = kept_more node_on before line

ways_more : (before : List Line) (line : Line) → ways_on (before ++ line ∷ []) ≡ ways_on before ++ ways_on (line ∷ [])
ways_more before line = kept_more way_on before line

length_more : {X : Type 0} (xs : List X) (x : X) → length (xs ++ x ∷ []) ≡ length xs + 1
length_more xs x = length-append xs (x ∷ [])

-- what lines gather with one more, by its node and its way
abbrev gathered_with : List Line → List NodeLine → List WayLine → GatheredLists
gathered_with before nodes ways =
    record { lines = length before + 1; seen_nodes = map seen (nodes_on before) ++ map seen nodes; nodes = placed_on before ++ filter_map placed nodes; seen_ways = map id_of (ways_on before) ++ map id_of ways; ways = ways_on before ++ ways; references = references_on before + sum_by (λ way. length way.references) ways }

gathered_more : (before : List Line) (line : Line) → gathered_on (before ++ line ∷ []) ≡ gathered_with before (nodes_on (line ∷ [])) (ways_on (line ∷ []))
gathered_more before line =
    rw (
      length_more before line,
      nodes_more before line,
      ways_more before line,
      map-append seen (nodes_on before) (nodes_on (line ∷ [])),
      map-append id_of (ways_on before) (ways_on (line ∷ [])),
      filter_map-append placed (nodes_on before) (nodes_on (line ∷ [])),
      sum_by-append (λ way. length way.references) (ways_on before) (ways_on (line ∷ [])),
    ) refl

-- an id was seen where a visible node has it
seen_node : (nodes : List NodeLine) (id : ℤ) → is_some (lookup (int_eq id) (map seen nodes)) ≡ has_node nodes id
seen_node [] id = refl
seen_node (node ∷ nodes) id = by_test (int_eq id node.id) (seen_node nodes id)
  where
    by_test : (t : Bool) → is_some (lookup (int_eq id) (map seen nodes)) ≡ has_node nodes id → is_some (cond t (Some (is_some node.place)) (lookup (int_eq id) (map seen nodes))) ≡ (t || has_node nodes id)
    by_test true rest = refl
    by_test false rest = rest

seen_way : (ways : List WayLine) (id : ℤ) → list_any (int_eq id) (map id_of ways) ≡ has_way ways id
seen_way [] id = refl
seen_way (way ∷ ways) id = ap (λ t. int_eq id way.id || t) (seen_way ways id)

one_kept : (node : NodeLine) → filter_map placed (node ∷ []) ≡ option_to_list (placed node)
one_kept node = by_place (placed node)
  where
    by_place : (o : Option OsmNode) → cons_option o [] ≡ option_to_list o
    by_place None = refl
    by_place (Some x) = refl

placed_more : (before : List Line) (node : NodeLine) → placed_on (before ++ Node node ∷ []) ≡ placed_on before ++ option_to_list (placed node)
placed_more before node =
    ap (filter_map placed) (nodes_more before (Node node)) ∙ filter_map-append placed (nodes_on before) (node ∷ []) ∙ ap (λ more. placed_on before ++ more) (one_kept node)

-- a line without a node and a way
passed_more : (before : List Line) → gathered_with before [] [] ≡ record (gathered_on before) { lines = length before + 1 }
passed_more before =
    rw (append-nil (map seen (nodes_on before)), append-nil (placed_on before), append-nil (map id_of (ways_on before)), append-nil (ways_on before), add-zero (references_on before)) refl

node_more : (before : List Line) (node : NodeLine) → gathered_on (before ++ Node node ∷ [])
    ≡ record (gathered_on before) { lines = length before + 1; seen_nodes = map seen (nodes_on before) ++ seen node ∷ []; nodes = placed_on before ++ option_to_list (placed node) }
node_more before node =
    gathered_more before (Node node)
    ∙ rw (one_kept node, append-nil (map id_of (ways_on before)), append-nil (ways_on before), add-zero (references_on before)) refl

sum_one : (way : WayLine) → sum_by (λ way. length way.references) (way ∷ []) ≡ length way.references
sum_one way = omega arith

way_more : (before : List Line) (way : WayLine) → gathered_on (before ++ Way way ∷ [])
    ≡ record (gathered_on before) { lines = length before + 1; seen_ways = map id_of (ways_on before) ++ way.id ∷ []; ways = ways_on before ++ way ∷ []; references = references_on before + length way.references }
way_more before way =
    gathered_more before (Way way)
    ∙ rw (append-nil (map seen (nodes_on before)), append-nil (placed_on before), sum_one way) refl

two_tests : {X : Type 0} (t u : Bool) (f g : OplFault) (x : X) → cond t (Err f) (cond u (Err g) (Ok x)) ≡ faultless (cond t (Some f) (cond u (Some g) None)) x
two_tests true u f g x = refl
two_tests false true f g x = refl
two_tests false false f g x = refl

three_tests : {X : Type 0} (t u v : Bool) (f g h : OplFault) (x : X) → cond t (Err f) (cond u (Err g) (cond v (Err h) (Ok x))) ≡ faultless (cond t (Some f) (cond u (Some g) (cond v (Some h) None))) x
three_tests true u v f g h x = refl
three_tests false u v f g h x = two_tests u v g h x

-- a line more
step : (caps : Caps) (before : List Line) (line : Line) → with_line caps (gathered_on before) line ≡ faultless (fault_behind caps before line) (gathered_on (before ++ line ∷ []))
step caps before Passed = ap Ok (sym (gathered_more before Passed ∙ passed_more before))
step caps before Bad = refl
step caps before (Node node) =
    let nodes = placed_on before ++ option_to_list (placed node) in
    let all = record (gathered_on before) { lines = length before + 1; seen_nodes = map seen (nodes_on before) ++ seen node ∷ []; nodes = nodes } in
    ap (λ t. cond t (Err (RepeatedObject (length before + 1))) (cond (nat_lt caps.osm_nodes (length nodes)) (Err (TooMany OsmNodes)) (Ok all))) (seen_node (nodes_on before) node.id)
    ∙ two_tests (has_node (nodes_on before) node.id) (nat_lt caps.osm_nodes (length nodes)) (RepeatedObject (length before + 1)) (TooMany OsmNodes) all
    ∙ ap₂ (λ nodes all. faultless (cond (has_node (nodes_on before) node.id) (Some (RepeatedObject (length before + 1))) (cond (nat_lt caps.osm_nodes (length nodes)) (Some (TooMany OsmNodes)) None)) all) (sym (placed_more before node)) (sym (node_more before node))
step caps before (Way way) =
    let ways = ways_on before ++ way ∷ [] in
    let references = references_on before + length way.references in
    let all = record (gathered_on before) { lines = length before + 1; seen_ways = map id_of (ways_on before) ++ way.id ∷ []; ways = ways; references = references } in
    ap (λ t. cond t (Err (RepeatedObject (length before + 1))) (cond (nat_lt caps.ways (length ways)) (Err (TooMany Ways)) (cond (nat_lt caps.refs references) (Err (TooMany Refs)) (Ok all)))) (seen_way (ways_on before) way.id)
    ∙ three_tests (has_way (ways_on before) way.id) (nat_lt caps.ways (length ways)) (nat_lt caps.refs references) (RepeatedObject (length before + 1)) (TooMany Ways) (TooMany Refs) all
    ∙ ap (λ all. faultless (cond (has_way (ways_on before) way.id) (Some (RepeatedObject (length before + 1))) (cond (nat_lt caps.ways (length all.ways)) (Some (TooMany Ways)) (cond (nat_lt caps.refs all.references) (Some (TooMany Refs)) None))) all) (sym (way_more before way))

-- lines are added until the first that has a fault
pub with_all : (caps : Caps) (before lines : List Line) → with_lines caps (gathered_on before) lines ≡ faultless (first_line_fault caps before lines) (gathered_on (before ++ lines))
with_all caps before [] = ap (λ all. Ok (gathered_on all)) (sym (append-nil before))
with_all caps before (line ∷ lines) =
    ap (λ r. on_ok r (λ h. with_lines caps h lines)) (step caps before line) ∙ by_fault (fault_behind caps before line) (with_all caps (before ++ line ∷ []) lines)
  where
    by_fault : (o : Option OplFault) → with_lines caps (gathered_on (before ++ line ∷ [])) lines ≡ faultless (first_line_fault caps (before ++ line ∷ []) lines) (gathered_on ((before ++ line ∷ []) ++ lines))
        → on_ok (faultless o (gathered_on (before ++ line ∷ []))) (λ h. with_lines caps h lines) ≡ faultless (option_or o (first_line_fault caps (before ++ line ∷ []) lines)) (gathered_on (before ++ line ∷ lines))
    by_fault None rest = rest ∙ ap (λ all. faultless (first_line_fault caps (before ++ line ∷ []) lines) (gathered_on all)) (append_assoc before (line ∷ []) lines)
    by_fault (Some fault) rest = refl
