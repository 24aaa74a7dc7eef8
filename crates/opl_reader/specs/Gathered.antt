-- What a reader keeps of the lines that have ended, and how a line is added to it.
use Rattle.std.specs.Prelude.{◌≡◌, ℕ, ◌+◌, List, [], ◌∷◌, ◌++◌, length, map, ℤ, Bool, false, nat_lt, is_some, option_to_list, unwrap_or, Result, Ok, Err, if◌then◌else◌}
use Rattle.std.specs.List.{list_any}
use Rattle.std.specs.Map.{lookup}
use Rattle.std.specs.Ordering.{int_eq}
use Rattle.plan_base.specs.{Caps}
use Rattle.plan_base.specs.declared.limits.Kind.TheVariants as kind
use Rattle.opl_reader.specs.{declared.objects.OsmNode.OsmNode, declared.objects.OplFault.OplFault, declared.objects.OplFault.TheVariants.BadLine, declared.objects.OplFault.TheVariants.RepeatedObject, declared.objects.OplFault.TheVariants.TooMany, declared.lines.Line.Line, declared.lines.Line.TheVariants.Passed, declared.lines.Line.TheVariants.Bad, declared.lines.Line.TheVariants.Node, declared.lines.Line.TheVariants.Way, declared.lines.NodeLine.NodeLine, declared.lines.WayLine.WayLine, ObjectLists.ObjectLists, Lines.map_line_of, Objects.placed, Objects.cut_way}
pub use Rattle.opl_reader.specs.{declared.objects.OplFault.TheVariants.OutOfMemory, declared.gathered.Gathered.Gathered}

-- the number of lines; the visible nodes' ids, and whether each has a place; the nodes that have one; the
-- visible ways' ids, the ways, and how often they name a node
pub record GatheredLists : Type 0 where
  pub lines : ℕ
  pub seen_nodes : List (ℤ × Bool)
  pub nodes : List OsmNode
  pub seen_ways : List ℤ
  pub ways : List WayLine
  pub references : ℕ

abbrev pub lists_of : Gathered → GatheredLists
lists_of g = record { lines = g.lines; seen_nodes = g.seen_nodes.entries; nodes = g.nodes.items; seen_ways = g.seen_ways.keys; ways = g.ways.items; references = g.references }

abbrev pub nothing_gathered : GatheredLists
nothing_gathered = record { lines = 0; seen_nodes = []; nodes = []; seen_ways = []; ways = []; references = 0 }

-- the answer is the fault of this result; want of memory is no matter of the text
abbrev pub IsFaultOf : {X : Type 0} → Result X OplFault → OplFault → Type 0
IsFaultOf r OutOfMemory = Unit {0}
IsFaultOf r (BadLine line) = r ≡ Err (BadLine line)
IsFaultOf r (RepeatedObject line) = r ≡ Err (RepeatedObject line)
IsFaultOf r (TooMany kind) = r ≡ Err (TooMany kind)

-- a node joins the nodes, or its fault on the line of this number
abbrev pub with_node : Caps → GatheredLists → NodeLine → Result GatheredLists OplFault
with_node caps g node =
    let nodes = g.nodes ++ option_to_list (placed node) in
    if is_some (lookup (int_eq node.id) g.seen_nodes) then Err (RepeatedObject (g.lines + 1))
    else (if nat_lt caps.osm_nodes (length nodes) then Err (TooMany kind.OsmNodes)
    else Ok (record g { lines = g.lines + 1; seen_nodes = g.seen_nodes ++ (node.id, is_some node.place) ∷ []; nodes = nodes }))

abbrev pub with_way : Caps → GatheredLists → WayLine → Result GatheredLists OplFault
with_way caps g way =
    let ways = g.ways ++ way ∷ [] in
    let references = g.references + length way.references in
    if list_any (int_eq way.id) g.seen_ways then Err (RepeatedObject (g.lines + 1))
    else (if nat_lt caps.ways (length ways) then Err (TooMany kind.Ways)
    else (if nat_lt caps.refs references then Err (TooMany kind.Refs)
    else Ok (record g { lines = g.lines + 1; seen_ways = g.seen_ways ++ way.id ∷ []; ways = ways; references = references })))

abbrev pub with_line : Caps → GatheredLists → Line → Result GatheredLists OplFault
with_line caps g Passed = Ok (record g { lines = g.lines + 1 })
with_line caps g Bad = Err (BadLine (g.lines + 1))
with_line caps g (Node node) = with_node caps g node
with_line caps g (Way way) = with_way caps g way

-- what is gathered with a last line, which stands there if it is not empty
abbrev pub last_line : Caps → GatheredLists → List ℕ → Result GatheredLists OplFault
last_line caps g [] = Ok g
last_line caps g (b ∷ bs) = with_line caps g (map_line_of (b ∷ bs))

-- a visible node of this id was seen, and has a place
abbrev pub is_seen_placed : List (ℤ × Bool) → ℤ → Bool
is_seen_placed seen id = unwrap_or (lookup (int_eq id) seen) false

-- the objects of what was gathered
abbrev pub objects_from : GatheredLists → ObjectLists
objects_from g = record { nodes = g.nodes; ways = map (cut_way (is_seen_placed g.seen_nodes)) g.ways }
