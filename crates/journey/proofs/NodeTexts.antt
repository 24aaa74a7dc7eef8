-- The text of a node tells its number: keys are unique, and no two keys have one text.
use Rattle.plan_base.proofs.Common.{◌≡◌, ℕ, ◌+◌, ◌-◌, ◌<◌, ◌∙◌, inl, inr, List, [], ◌∷◌, ◌++◌, length, length-append, Option, Some, None, refl, ap, ap₂, sym, subst, arith, codes, get_or, position, bytes_eq, slice_get, unwrap_or, option_map, signed_decimal, ordering_then, ordering_reverse, nat_cmp, int_cmp, IsTotalOrder, Ordering, Less, Equal, Greater, cases_lt, get_or_append_left, All-cons, All-append, slice_get-get_or, slice_get_within, get_or_from_slice_get, slice_get_cases}
use Rattle.std.proofs.lemmas.List.{get_or-append_right}
use Rattle.std.proofs.lemmas.Option.{unwrap_or-slice_get}
use Rattle.plan_base.specs.{letter_names, number_of_mode, Mode}
use Rattle.plain_texts.specs.{IsWord, IsId}
use Rattle.plain_texts.proofs.Spaced.{word_by_test, signed_is_word, name_is_word}
use Rattle.mode_network.specs.{Node, NodeKey, Road, Stop, Switch, nodes_of, IsNetwork, IsRoad, IsStop, IsSwitch, IsAscending, rank_of, node_cmp, name_cmp, NetworkLists.NetworkLists}
use Rattle.mode_network.proofs.RuleLemmas.{mode_by_number, nodes_total, names_total, number_is_low}
use Rattle.journey.specs.{key_text, node_text, letter_text}
use Rattle.journey.proofs.TextParts.{Lacks, cut_once, letter_tells, letter_is_word, letter_once, id_once, lacks_by_test}

-- ---- rows that ascend

self_equal : {X : Type 0} (cmp : X → X → Ordering) → IsTotalOrder cmp → (x : X) → cmp x x ≡ Equal
self_equal cmp total x = by_order (cmp x x) (total.antisymm x x)
  where
    by_order : (o : Ordering) → o ≡ ordering_reverse o → o ≡ Equal
    by_order Less e = cc
    by_order Equal e = refl
    by_order Greater e = cc

not_before : {X : Type 0} (cmp : X → X → Ordering) (xs : List X) → IsAscending cmp xs → (j k : ℕ) (a b : X) → slice_get xs j ≡ Some a → slice_get xs k ≡ Some b → cmp a b ≡ Equal → j < k → ⊥
not_before cmp xs ascend j k a b at_j at_k same lt =
    let less = ascend j k a lt (slice_get_within xs k b at_k) in
    let first = get_or_from_slice_get xs j a a at_j in
    let second = get_or_from_slice_get xs k b a at_k in
    let there : cmp a b ≡ Less = subst (λ x. cmp x b ≡ Less) first (subst (λ y. cmp (get_or xs j a) y ≡ Less) second less) in
    cc

-- equal rows stand at one place
place_once : {X : Type 0} (cmp : X → X → Ordering) (xs : List X) → IsAscending cmp xs → (j k : ℕ) (a b : X) → slice_get xs j ≡ Some a → slice_get xs k ≡ Some b → cmp a b ≡ Equal → cmp b a ≡ Equal → j ≡ k
place_once cmp xs ascend j k a b at_j at_k same back = elim (cases_lt j k) [
  | inl lt ↦ absurd (not_before cmp xs ascend j k a b at_j at_k same lt)
  | inr ge ↦ elim (cases_lt k j) [
    | inl lt ↦ absurd (not_before cmp xs ascend k j b a at_k at_j back lt)
    | inr le ↦ omega arith
  ]
]

keys_equal : (a b : Node) → a.key ≡ b.key → node_cmp a b ≡ Equal
keys_equal a b same =
    ap (λ (key : NodeKey). ordering_then (int_cmp (rank_of a.key).0 (rank_of key).0) (nat_cmp (rank_of a.key).1 (rank_of key).1)) (sym same) ∙ self_equal node_cmp nodes_total a

node_place_once : (xs : List Node) → IsAscending node_cmp xs → (j k : ℕ) (a b : Node) → slice_get xs j ≡ Some a → slice_get xs k ≡ Some b → a.key ≡ b.key → j ≡ k
node_place_once xs ascend j k a b at_j at_k same = place_once node_cmp xs ascend j k a b at_j at_k (keys_equal a b same) (keys_equal b a (sym same))

module _ (n : NetworkLists) (network : IsNetwork n) where
  name_of : ℕ → List ℕ
  name_of stop = unwrap_or (slice_get n.stop_names stop) []

  name_held : (stop : ℕ) → stop < length n.stop_names → slice_get n.stop_names stop ≡ Some (name_of stop)
  unfolding name_of
  name_held stop lt = slice_get-get_or n.stop_names stop [] lt ∙ ap Some (sym (unwrap_or-slice_get n.stop_names stop []))

  name_word : (stop : ℕ) → stop < length n.stop_names → IsWord (name_of stop)
  unfolding name_of
  name_word stop lt = rw (unwrap_or-slice_get n.stop_names stop []) (name_is_word (get_or n.stop_names stop []) (network.names_are stop [] lt))

  mode_is_letter : (mode : Mode) → number_of_mode mode < 14
  mode_is_letter mode = let low = number_is_low mode in omega (arith, low)

  -- ---- which node has a key

  abbrev IsNodeOf : ℕ → NodeKey → Type 0
  IsNodeOf v (Road mode id) = IsId id × ((node : Node) × (slice_get n.roads v ≡ Some node) × (node.key ≡ Road mode id))
  IsNodeOf v (Stop stop) = (stop < length n.stop_names) × (v ≡ length n.roads + stop)
  IsNodeOf v (Switch id) = IsId id × ((k : ℕ) × (node : Node) × (v ≡ length n.roads + length n.stops + k) × (slice_get n.switches k ≡ Some node) × (node.key ≡ Switch id))

  record IsTold (v : ℕ) : Type 0 where
    key : NodeKey
    text : node_text n v ≡ key_text n key
    of : IsNodeOf v key

  held : (xs : List Node) (k : ℕ) (node : Node) → k < length xs → node ≡ get_or xs k node → slice_get xs k ≡ Some node
  held xs k node lt is = slice_get-get_or xs k node lt ∙ ap Some (sym is)

  road_key : (v : ℕ) (node : Node) → slice_get n.roads v ≡ Some node → (key : NodeKey) → node.key ≡ key → IsRoad key → IsNodeOf v key
  road_key v node at (Road mode id) is road = (road, (node, at, is))
  road_key v node at (Stop stop) is road = absurd road
  road_key v node at (Switch id) is road = absurd road

  stop_key : (v k : ℕ) → v ≡ length n.roads + k → k < length n.stop_names → (key : NodeKey) → IsStop k key → IsNodeOf v key
  stop_key v k there lt (Road mode id) stop = absurd stop
  stop_key v k there lt (Stop stop) same = (subst (λ s. s < length n.stop_names) (sym same) lt, there ∙ ap (λ s. length n.roads + s) (sym same))
  stop_key v k there lt (Switch id) stop = absurd stop

  switch_key : (v k : ℕ) (node : Node) → v ≡ length n.roads + length n.stops + k → slice_get n.switches k ≡ Some node → (key : NodeKey) → node.key ≡ key → IsSwitch key → IsNodeOf v key
  switch_key v k node there at (Road mode id) is switch = absurd switch
  switch_key v k node there at (Stop stop) is switch = absurd switch
  switch_key v k node there at (Switch id) is switch = (switch, (k, node, there, at, is))

  node_of : (v : ℕ) (node : Node) → slice_get (nodes_of n) v ≡ Some node → v < length (nodes_of n) → IsNodeOf v node.key
  node_of v node at lt = elim (cases_lt v (length n.roads)) [
    | inl first ↦
        let is : node ≡ get_or n.roads v node = here ∙ get_or_append_left (n.roads ++ n.stops) n.switches node v (omega (arith, fronts, first)) ∙ get_or_append_left n.roads n.stops node v first in
        road_key v node (held n.roads v node first is) node.key refl (subst (λ (x : Node). IsRoad x.key) (sym is) (network.parts.roads_are v node first))
    | inr past ↦ elim (cases_lt v (length n.roads + length n.stops)) [
      | inl second ↦
          let k = v - length n.roads in
          let inside : k < length n.stops = omega (arith, past, second) in
          let is : node ≡ get_or n.stops k node = here ∙ get_or_append_left (n.roads ++ n.stops) n.switches node v (omega (arith, fronts, second)) ∙ get_or-append_right n.roads n.stops (length n.roads) v node refl past in
          stop_key v k (omega (arith, past)) (omega (arith, inside, network.parts.one_name_each)) node.key (subst (λ (x : Node). IsStop k x.key) (sym is) (network.parts.stops_are k node inside))
      | inr third ↦
          let k = v - (length n.roads + length n.stops) in
          let inside : k < length n.switches = omega (arith, third, lt, whole, fronts) in
          let is : node ≡ get_or n.switches k node = here ∙ get_or-append_right (n.roads ++ n.stops) n.switches (length n.roads + length n.stops) v node fronts third in
          switch_key v k node (omega (arith, third)) (held n.switches k node inside is) node.key refl (subst (λ (x : Node). IsSwitch x.key) (sym is) (network.parts.switches_are k node inside))
    ]
  ]
    where
      fronts : length (n.roads ++ n.stops) ≡ length n.roads + length n.stops
      fronts = length-append n.roads n.stops

      whole : length (nodes_of n) ≡ length (n.roads ++ n.stops) + length n.switches
      whole = length-append (n.roads ++ n.stops) n.switches

      here : node ≡ get_or (nodes_of n) v node
      here = sym (get_or_from_slice_get (nodes_of n) v node node at)

  told : (v : ℕ) → v < length (nodes_of n) → IsTold v
  told v lt = elim (slice_get_cases (nodes_of n) v).1 [
    | inl (node, inside, at, get) ↦ record {
      key = node.key;
      text = ap (λ (o : Option Node). unwrap_or (option_map (λ (node : Node). key_text n node.key) o) []) at;
      of = node_of v node at lt;
    }
    | inr past ↦ absurd (omega (arith, past.0, lt))
  ]

  -- ---- texts of keys

  key_word : (v : ℕ) (key : NodeKey) → IsNodeOf v key → IsWord (key_text n key)
  unfolding name_of
  key_word v (Road mode id) (is, _) =
      All-append (λ b. 32 < b) (letter_text (number_of_mode mode)) (58 ∷ signed_decimal id) (letter_is_word (number_of_mode mode)) (All-cons (λ b. 32 < b) 58 (signed_decimal id) (omega arith) (signed_is_word id (omega (arith, is))))
  key_word v (Stop stop) (lt, _) = All-append (λ b. 32 < b) (codes "stop:") (name_of stop) (word_by_test (codes "stop:") refl) (name_word stop lt)
  key_word v (Switch id) (is, _) = All-append (λ b. 32 < b) (codes "switch:") (signed_decimal id) (word_by_test (codes "switch:") refl) (signed_is_word id (omega (arith, is)))

  -- what stands before the colon, and what stands behind it
  abbrev front : NodeKey → List ℕ
  front (Road mode id) = letter_text (number_of_mode mode)
  front (Stop stop) = codes "stop"
  front (Switch id) = codes "switch"

  abbrev back : NodeKey → List ℕ
  back (Road mode id) = signed_decimal id
  back (Stop stop) = unwrap_or (slice_get n.stop_names stop) []
  back (Switch id) = signed_decimal id

  key_cut : (key : NodeKey) → key_text n key ≡ front key ++ 58 ∷ back key
  key_cut (Road mode id) = refl
  key_cut (Stop stop) = refl
  key_cut (Switch id) = refl

  front_lacks : (v : ℕ) (key : NodeKey) → IsNodeOf v key → Lacks 58 (front key)
  front_lacks v (Road mode id) of = (letter_tells (number_of_mode mode) (mode_is_letter mode)).plain
  front_lacks v (Stop stop) of = lacks_by_test 58 (codes "stop") refl
  front_lacks v (Switch id) of = lacks_by_test 58 (codes "switch") refl

  no_letter : (mode : Mode) (text : List ℕ) → position (λ known. bytes_eq known text) letter_names ≡ None → letter_text (number_of_mode mode) ≡ text → ⊥
  no_letter mode text none e =
      let again = (letter_tells (number_of_mode mode) (mode_is_letter mode)).again in
      let there : Some (number_of_mode mode) ≡ None = sym again ∙ ap (λ t. position (λ known. bytes_eq known t) letter_names) e ∙ none in
      cc

  by_parts : (v w : ℕ) (a b : NodeKey) → IsNodeOf v a → IsNodeOf w b → front a ≡ front b → back a ≡ back b → v ≡ w
  unfolding name_of
  by_parts v w (Road mode id) (Road other other_id) (is, (node, at, key)) (are, (row, there, same)) e f =
      let modes = mode_by_number mode other (letter_once (number_of_mode mode) (number_of_mode other) (mode_is_letter mode) (mode_is_letter other) e) in
      let ids = id_once id other_id is are f in
      node_place_once n.roads network.roads_ascend v w node row at there (key ∙ ap₂ (λ m i. Road m i) modes ids ∙ sym same)
  by_parts v w (Road mode id) (Stop stop) of ov e f = absurd (no_letter mode (codes "stop") refl e)
  by_parts v w (Road mode id) (Switch other_id) of ov e f = absurd (no_letter mode (codes "switch") refl e)
  by_parts v w (Stop stop) (Road mode id) of ov e f = absurd (no_letter mode (codes "stop") refl (sym e))
  by_parts v w (Stop stop) (Stop other) (lt, there) (less, where_) e f =
      let second = name_held other less in
      let first = name_held stop lt in
      let names = self_equal name_cmp names_total (name_of other) in
      let same : stop ≡ other = place_once name_cmp n.stop_names network.names_ascend stop other (name_of other) (name_of other) (first ∙ ap Some f) second names names in
      there ∙ ap (λ s. length n.roads + s) same ∙ sym where_
  by_parts v w (Stop stop) (Switch other_id) of ov e f = absurd (cc)
  by_parts v w (Switch id) (Road mode other_id) of ov e f = absurd (no_letter mode (codes "switch") refl (sym e))
  by_parts v w (Switch id) (Stop stop) of ov e f = absurd (cc)
  by_parts v w (Switch id) (Switch other_id) (is, (k, node, there, at, key)) (are, (l, row, where_, stands, same)) e f =
      let ids = id_once id other_id is are f in
      let place = node_place_once n.switches network.switches_ascend k l node row at stands (key ∙ ap (λ i. Switch i) ids ∙ sym same) in
      there ∙ ap (λ s. length n.roads + length n.stops + s) place ∙ sym where_

  pub node_is_word : (v : ℕ) → v < length (nodes_of n) → IsWord (node_text n v)
  node_is_word v lt = let t = told v lt in rw t.text (key_word v t.key t.of)

  -- no two nodes have one text
  pub node_once : (v w : ℕ) → v < length (nodes_of n) → w < length (nodes_of n) → node_text n v ≡ node_text n w → v ≡ w
  node_once v w hv hw e =
      let a = told v hv in
      let b = told w hw in
      let parts = cut_once 58 (front a.key) (front b.key) (back a.key) (back b.key) (front_lacks v a.key a.of) (front_lacks w b.key b.of)
      (sym (key_cut a.key) ∙ (sym a.text ∙ (e ∙ (b.text ∙ key_cut b.key)))) in
      by_parts v w a.key b.key a.of b.of parts.0 parts.1
