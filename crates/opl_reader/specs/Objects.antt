-- What the lines of a map's text give together: the first fault, or the objects.
use Rattle.std.specs.Prelude.{ℕ, ◌+◌, List, [], ◌∷◌, ◌++◌, length, map, filter, filter_map, sum_by, ℤ, Bool, not, nat_le, nat_lt, Option, None, Some, option_map, Result, Ok, Err, if◌then◌else◌}
use Rattle.std.specs.Option.{option_or}
use Rattle.std.specs.List.{list_any, slice_split}
use Rattle.std.specs.Ordering.{int_eq}
use Rattle.plan_base.specs.{Caps}
use Rattle.plan_base.specs.declared.limits.Kind.TheVariants as kind
use Rattle.plain_texts.specs.{pieces, lines_of}
use Rattle.opl_reader.specs.{declared.objects.OsmNode.OsmNode, declared.objects.OsmWay.OsmWay, declared.lines.Line.Line, declared.lines.Line.TheVariants.Passed, declared.lines.Line.TheVariants.Bad, declared.lines.Line.TheVariants.Node, declared.lines.Line.TheVariants.Way, ObjectLists.ObjectLists, ObjectLists.is_placed, Lines.map_line_of}
pub use Rattle.opl_reader.specs.{declared.objects.OplFault.OplFault, declared.objects.OplFault.TheVariants.BadLine, declared.objects.OplFault.TheVariants.RepeatedObject, declared.objects.OplFault.TheVariants.TooMany, declared.lines.NodeLine.NodeLine, declared.lines.WayLine.WayLine}

-- the visible node on a line
abbrev pub node_on : Line → Option NodeLine
node_on (Node node) = Some node
node_on Passed = None
node_on Bad = None
node_on (Way way) = None

-- the visible way on a line
abbrev pub way_on : Line → Option WayLine
way_on (Way way) = Some way
way_on Passed = None
way_on Bad = None
way_on (Node node) = None

-- the visible nodes and the visible ways, in the order of the lines
abbrev pub nodes_on : List Line → List NodeLine
nodes_on lines = filter_map node_on lines

abbrev pub ways_on : List Line → List WayLine
ways_on lines = filter_map way_on lines

-- a node with its place, if it has one
abbrev pub placed : NodeLine → Option OsmNode
placed node = option_map (λ place. record { id = node.id; place = place; amenity = node.amenity }) node.place

-- the visible nodes that have a place
abbrev pub placed_on : List Line → List OsmNode
placed_on lines = filter_map placed (nodes_on lines)

-- how often ways name a node
abbrev pub references_on : List Line → ℕ
references_on lines = sum_by (λ way. length way.references) (ways_on lines)

-- a visible node of this id is there
abbrev pub has_node : List NodeLine → ℤ → Bool
has_node nodes id = list_any (λ node. int_eq id node.id) nodes

-- a visible way of this id is there
abbrev pub has_way : List WayLine → ℤ → Bool
has_way ways id = list_any (λ way. int_eq id way.id) ways

-- the limit of nodes, if these lines go past it
abbrev pub node_limit : Caps → List Line → Option OplFault
node_limit caps lines = if nat_lt caps.osm_nodes (length (placed_on lines)) then Some (TooMany kind.OsmNodes) else None

-- the ways come first, then how often they name a node
abbrev pub way_limit : Caps → List Line → Option OplFault
way_limit caps lines =
    if nat_lt caps.ways (length (ways_on lines)) then Some (TooMany kind.Ways)
    else (if nat_lt caps.refs (references_on lines) then Some (TooMany kind.Refs) else None)

-- The fault of a line behind these lines. An id may stand at one visible node and at one visible way.
abbrev pub fault_behind : Caps → List Line → Line → Option OplFault
fault_behind caps before Passed = None
fault_behind caps before Bad = Some (BadLine (length before + 1))
fault_behind caps before (Node node) =
    if has_node (nodes_on before) node.id then Some (RepeatedObject (length before + 1))
    else node_limit caps (before ++ Node node ∷ [])
fault_behind caps before (Way way) =
    if has_way (ways_on before) way.id then Some (RepeatedObject (length before + 1))
    else way_limit caps (before ++ Way way ∷ [])

-- the fault of the first line that has one, where the lines stand behind others that have none
abbrev pub first_line_fault : Caps → List Line → List Line → Option OplFault
first_line_fault caps before [] = None
first_line_fault caps before (line ∷ lines) = option_or (fault_behind caps before line) (first_line_fault caps (before ++ line ∷ []) lines)

-- A way is cut where it names a node without a place. Pieces of two or more nodes remain.
abbrev pub pieces_by : (ℤ → Bool) → List ℤ → List (List ℤ)
pieces_by has_place ids = filter (λ piece. nat_le 2 (length piece)) (slice_split (λ id. not (has_place id)) ids)

-- a way with its pieces
abbrev pub cut_way : (ℤ → Bool) → WayLine → OsmWay
cut_way has_place way = record { id = way.id; tags = way.tags; pieces = pieces_by has_place way.references }

-- the objects of lines without a fault; nodes may stand behind the ways that name them
abbrev pub objects_on : List Line → ObjectLists
objects_on lines = record { nodes = placed_on lines; ways = map (cut_way (is_placed (placed_on lines))) (ways_on lines) }

-- this, where there is no fault
abbrev pub faultless : {X : Type 0} → Option OplFault → X → Result X OplFault
faultless None x = Ok x
faultless (Some fault) x = Err fault

-- the first fault of lines, or their objects
abbrev pub objects_of_lines : Caps → List Line → Result ObjectLists OplFault
objects_of_lines caps lines = faultless (first_line_fault caps [] lines) (objects_on lines)

-- all pieces but the last
abbrev pub all_but_last : List (List ℕ) → List (List ℕ)
all_but_last [] = []
all_but_last (piece ∷ []) = []
all_but_last (piece ∷ next ∷ more) = piece ∷ all_but_last (next ∷ more)

-- the first fault on the lines that end in a line feed
unfoldable pub ended_fault : Caps → List ℕ → Option OplFault
ended_fault caps text = first_line_fault caps [] (map map_line_of (all_but_last (pieces text)))

-- The objects of a text, or its first fault. The last line may end without a line feed.
unfoldable pub objects_of : Caps → List ℕ → Result ObjectLists OplFault
objects_of caps text = objects_of_lines caps (map map_line_of (lines_of text))
