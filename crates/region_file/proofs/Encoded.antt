-- What is written of a network is its spelling.
use Rattle.plan_base.proofs.Common.{◌≡◌, ℕ, suc, List, [], ◌∷◌, ◌++◌, ◌+◌, ◌<◌, length, get_or, map, take, refl, ap, ap₂, sym, ◌∙◌, arith, append_assoc, All, zip, flat_map, flat_map-append, append-nil, flat_map_more, get_or_default, take_more, All-head, All-tail, flat_map-map}
use Rattle.std.proofs.lemmas.Slice.Zip.{get_or-zip, length-zip}
use Rattle.plain_texts.specs.{lines_text}
use Rattle.plan_base.specs.{Place}
use Rattle.timetable_arcs.specs.{TripLists}
use Rattle.mode_network.specs.{Node, NodeKey, Road, Stop, Switch, nodes_of, AreParts, IsRoad, IsStop, IsSwitch, NetworkLists.NetworkLists}
use Rattle.region_file.specs.{Line, Format, Text, Binary, region_bytes, head_line, key_line, node_line, region_lines, region_text, spelled, stop_line, trip_lines, spelling, inside.head_in, inside.line_in, inside.line_text, inside.name_at, inside.named_line, inside.node_in, inside.trip_in}
use Rattle.region_file.specs.declared.lines.Line.TheVariants as line

-- One element more of a list.
module _ {X : Type 0} (xs : List X) (k : ℕ) (x : X) (within : k < length xs) (is : get_or xs k x ≡ x) where
  taken : take (k + 1) xs ≡ take k xs ++ x ∷ []
  taken = take_more xs k x within ∙ ap (λ y. take k xs ++ y ∷ []) is

  pub text_more : (f : X → List ℕ) (old before after : List ℕ) → before ≡ old ++ flat_map f (take k xs) → after ≡ before ++ f x → after ≡ old ++ flat_map f (take (k + 1) xs)
  text_more f old before after begun written =
      written ∙ ap (λ text. text ++ f x) begun ∙ flat_map_more f old (take k xs) x ∙ ap (λ ys. old ++ flat_map f ys) (sym taken)

-- The text of some lines.

lines_are : (ls : List Line) → lines_text (map spelled ls) ≡ flat_map line_text ls
lines_are [] = refl
lines_are (l ∷ ls) = ap (λ text. line_text l ++ text) (lines_are ls)

-- The texts of lines, whatever the text of a line is.
module _ (text : Line → List ℕ) where
  abbrev pub node_by : List (List ℕ) → Node → List ℕ
  node_by names node = text (named_line names node.key node.place)

  trips_are : (trips : List TripLists) → flat_map text (flat_map trip_lines trips) ≡ flat_map (λ trip. flat_map text (trip_lines trip)) trips
  trips_are [] = refl
  trips_are (trip ∷ trips) = flat_map-append text (trip_lines trip) (flat_map trip_lines trips) ∙ ap (λ more. flat_map text (trip_lines trip) ++ more) (trips_are trips)

  -- the texts of the sections, one behind the other
  section_texts : (roads stops switches arcs links trips end : List Line) → flat_map text (roads ++ (stops ++ (switches ++ (arcs ++ (links ++ (trips ++ end)))))) ≡ flat_map text roads ++ (flat_map text stops ++ (flat_map text switches ++ (flat_map text arcs ++ (flat_map text links ++ (flat_map text trips ++ flat_map text end)))))
  section_texts roads stops switches arcs links trips end = simp flat_map-append

regrouped : (head days nodes roads stops switches arcs arc_lines links link_lines trips trip_lines end : List ℕ) → nodes ≡ roads ++ (stops ++ switches) → arcs ≡ arc_lines → links ≡ link_lines → trips ≡ trip_lines
    → (((((head ++ days) ++ nodes) ++ arcs) ++ links) ++ trips) ++ end ≡ head ++ (days ++ (roads ++ (stops ++ (switches ++ (arc_lines ++ (link_lines ++ (trip_lines ++ end)))))))
regrouped head days nodes roads stops switches arcs arc_lines links link_lines trips trip_lines end nodes_are arcs_are links_are trips_are = rw (nodes_are, arcs_are, links_are, trips_are) (simp append_assoc)

same_texts : {X Y : Type 0} (f : X → List ℕ) (g : Y → List ℕ) (xs : List X) (ys : List Y) → length xs ≡ length ys → ((k : ℕ) (d : X) (e : Y) → k < length xs → f (get_or xs k d) ≡ g (get_or ys k e)) → flat_map f xs ≡ flat_map g ys
same_texts f g [] [] long h = refl
same_texts f g [] (y ∷ ys) long h = absurd (omega arith)
same_texts f g (x ∷ xs) [] long h = absurd (omega arith)
same_texts f g (x ∷ xs) (y ∷ ys) long h = ap₂ (λ text more. text ++ more) (h 0 x y (omega arith)) (same_texts f g xs ys (omega arith) (λ k d e lt. h (suc k) d e (omega arith)))

module _ (text : Line → List ℕ) (names : List (List ℕ)) where
  road_named : (key : NodeKey) (place : Place) → IsRoad key → named_line names key place ≡ key_line key place
  road_named (Road mode id) place h = refl
  road_named (Stop stop) place h = absurd h
  road_named (Switch id) place h = absurd h

  switch_named : (key : NodeKey) (place : Place) → IsSwitch key → named_line names key place ≡ key_line key place
  switch_named (Road mode id) place h = absurd h
  switch_named (Stop stop) place h = absurd h
  switch_named (Switch id) place h = refl

  stop_named : (k : ℕ) (key : NodeKey) (place : Place) → IsStop k key → named_line names key place ≡ line.Stop (name_at names k) place
  stop_named k (Road mode id) place h = absurd h
  stop_named k (Stop stop) place h = ap (λ s. line.Stop (name_at names s) place) h
  stop_named k (Switch id) place h = absurd h

  -- nodes whose lines need no name
  unnamed : (nodes : List Node) → All (λ (node : Node). named_line names node.key node.place ≡ node_line node) nodes → flat_map (node_by text names) nodes ≡ flat_map text (map node_line nodes)
  unnamed [] h = refl
  unnamed (node ∷ nodes) h = ap₂ (λ l more. text l ++ more) (All-head (λ (x : Node). named_line names x.key x.place ≡ node_line x) node nodes h) (unnamed nodes (All-tail (λ (x : Node). named_line names x.key x.place ≡ node_line x) node nodes h))

  stops_are : (stops : List Node) → ((k : ℕ) (d : Node) → k < length stops → IsStop k (get_or stops k d).key) → length names ≡ length stops → flat_map (node_by text names) stops ≡ flat_map text (map stop_line (zip names stops))
  stops_are stops are long =
      same_texts (node_by text names) (λ stop. text (stop_line stop)) stops (zip names stops) (omega (arith, long, length-zip names stops)) each
      ∙ sym (flat_map-map text stop_line (zip names stops))
    where
      each : (k : ℕ) (d : Node) (e : List ℕ × Node) → k < length stops → node_by text names (get_or stops k d) ≡ text (stop_line (get_or (zip names stops) k e))
      each k d e lt =
          let stop = get_or stops k d in
          let named : named_line names stop.key stop.place ≡ line.Stop (name_at names k) stop.place = stop_named k stop.key stop.place (are k d lt) in
          let pair : get_or (zip names stops) k e ≡ (name_at names k, stop)
          = get_or-zip names stops k e (omega (arith, long)) lt ∙ ap₂ (λ name node. (name, node)) (get_or_default names k e.0 [] (omega (arith, long))) (get_or_default stops k e.1 d lt) in
          ap text named ∙ ap (λ p. text (stop_line p)) (sym pair)

module _ (text : Line → List ℕ) (n : NetworkLists) (parts : AreParts n) where
  nodes_are : flat_map (node_by text n.stop_names) (nodes_of n) ≡ flat_map text (map node_line n.roads) ++ (flat_map text (map stop_line (zip n.stop_names n.stops)) ++ flat_map text (map node_line n.switches))
  nodes_are =
      flat_map-append (node_by text n.stop_names) (n.roads ++ n.stops) n.switches
      ∙ ap (λ t. t ++ flat_map (node_by text n.stop_names) n.switches) (flat_map-append (node_by text n.stop_names) n.roads n.stops)
      ∙ append_assoc (flat_map (node_by text n.stop_names) n.roads) (flat_map (node_by text n.stop_names) n.stops) (flat_map (node_by text n.stop_names) n.switches)
      ∙ ap₂ (λ roads more. roads ++ more)
      (unnamed text n.stop_names n.roads (λ k d lt. road_named text n.stop_names (get_or n.roads k d).key (get_or n.roads k d).place (parts.roads_are k d lt)))
      (ap₂ (λ stops switches. stops ++ switches)
      (stops_are text n.stop_names n.stops parts.stops_are parts.one_name_each)
      (unnamed text n.stop_names n.switches (λ k d lt. switch_named text n.stop_names (get_or n.switches k d).key (get_or n.switches k d).place (parts.switches_are k d lt))))

-- The texts of the lists, one behind the other.
module _ (format : Format) (n : NetworkLists) (parts : AreParts n) where
  whole : (format : Format) → head_in format n ++ flat_map (line_in format) (region_lines n) ≡ spelling format n
  unfolding region_text region_bytes
  whole Text = ap (λ text. head_line ++ text) (sym (lines_are (region_lines n)))
  whole Binary = refl

  pub written : (((((head_in format n ++ line_in format (line.Days n.days)) ++ flat_map (node_in format n.stop_names) (nodes_of n)) ++ flat_map (λ arc. line_in format (line.Arc arc)) n.arcs) ++ flat_map (λ link. line_in format (line.Link link)) n.links) ++ flat_map (trip_in format) n.trips) ++ line_in format line.End ≡ spelling format n
  unfolding region_lines
  written =
      let roads = map node_line n.roads in
      let stops = map stop_line (zip n.stop_names n.stops) in
      let switches = map node_line n.switches in
      let front = λ (text : List ℕ). head_in format n ++ (line_in format (line.Days n.days) ++ text) in
      let by = flat_map (line_in format) in
      regrouped (head_in format n) (line_in format (line.Days n.days)) _ (by roads) (by stops) (by switches) _ _ _ _ _ _ (line_in format line.End) (nodes_are (line_in format) n parts)
      (sym (flat_map-map (line_in format) line.Arc n.arcs)) (sym (flat_map-map (line_in format) line.Link n.links)) (sym (trips_are (line_in format) n.trips))
      ∙ ap (λ end. front (by roads ++ (by stops ++ (by switches ++ (by (map line.Arc n.arcs) ++ (by (map line.Link n.links) ++ (by (flat_map trip_lines n.trips) ++ end))))))) (sym (append-nil (line_in format line.End)))
      ∙ ap front (sym (section_texts (line_in format) roads stops switches (map line.Arc n.arcs) (map line.Link n.links) (flat_map trip_lines n.trips) (line.End ∷ [])))
      ∙ whole format
