-- The two laws of each record: what is read is spelled so, and what is spelled so is read.
use Rattle.plan_base.proofs.Common.{◌≡◌, ℕ, ◌^◌, ◌<◌, ◌&&◌, cond, ltb, List, [], ◌∷◌, ◌++◌, length, Some, None, Result, Ok, Err, sym, ap, subst, ◌∙◌, append_assoc, arith, Option, All, flat_map, w32, w64, to_be_bytes, ltb-true, lt-ltb, and_parts, and_from, All-from_recursion, recursion_from_All, none-some, same_Some, cond_some, option_and_then_some}
use Rattle.hierarchy.specs.{Entry, WitnessLists, IsNode}
use Rattle.hierarchy_file.specs.{Follow, AnyNext, itself, NextPair, NextThree, FitsRow, FitsWalk, node_in_bytes, entry_text, witness_text, middle_number, key_of_entry, key_of_witness, pair_cmp, three_cmp, node_at, next_node, middle_of, entry_front, witness_at, many_ascending, all_read, is_after}
use Rattle.file_records.specs.{number_front}
use Rattle.file_records.proofs.{Steps.and_then, NumberLaws.IsBytes, NumberLaws.Takes, NumberLaws.Takes-then, NumberLaws.wide32, NumberLaws.wide64, NumberLaws.number_takes, NumberLaws.number_again}
use Rattle.hierarchy_file.proofs.{FieldLaws.node_takes, FieldLaws.node_again, FieldLaws.middle_takes, FieldLaws.middle_again, FieldLaws.middle_fits, ManyLaws.many_takes, ManyLaws.many_again}

-- ---- nodes

pub next_node_takes : (before : Option ℕ) (bytes : List ℕ) (x : ℕ × List ℕ) → IsBytes bytes → next_node before bytes ≡ Some x → Takes bytes (node_in_bytes x.0) x.1 × IsNode x.0 × AnyNext before (itself x.0)
next_node_takes before bytes x fits e = let taken = node_takes bytes x fits e in (taken.0, taken.1, tt)

pub next_node_again : (before : Option ℕ) (v : ℕ) (rest : List ℕ) → IsNode v → AnyNext before (itself v) → next_node before (node_in_bytes v ++ rest) ≡ Some (v, rest)
next_node_again before v rest fits next = node_again v rest fits

any_follow : (before : Option ℕ) (nodes : List ℕ) → Follow AnyNext itself before nodes
any_follow before [] = tt
any_follow before (v ∷ nodes) = (tt, any_follow (Some v) nodes)

pub nodes_take : (n : ℕ) (bytes : List ℕ) (y : List ℕ × List ℕ) → IsBytes bytes → many_ascending next_node itself n None bytes ≡ Ok y
    → Takes bytes (flat_map node_in_bytes y.0) y.1 × (length y.0 ≡ n) × All IsNode y.0
nodes_take n bytes y fits e =
    let taken = many_takes next_node itself node_in_bytes IsNode AnyNext next_node_takes next_node_again n None bytes y fits e in
    (taken.0, taken.1, All-from_recursion IsNode y.0 taken.2)

pub nodes_again : (nodes : List ℕ) (rest : List ℕ) → All IsNode nodes → many_ascending next_node itself (length nodes) None (flat_map node_in_bytes nodes ++ rest) ≡ Ok (nodes, rest)
nodes_again nodes rest fits =
    many_again next_node itself node_in_bytes IsNode AnyNext next_node_takes next_node_again nodes None rest (recursion_from_All IsNode nodes fits) (any_follow None nodes)

-- ---- entries

pub entry_takes : (before : Option (ℕ × ℕ)) (bytes : List ℕ) (x : Entry × List ℕ) → IsBytes bytes → entry_front before bytes ≡ Some x
    → Takes bytes (entry_text x.0) x.1 × FitsRow x.0 × NextPair before (key_of_entry x.0)
unfolding entry_front
entry_takes before bytes x fits e =
    option_and_then_some _ (node_at bytes) x e (λ from is_from e.
    option_and_then_some _ (node_at from.1) x e (λ to is_to e.
    option_and_then_some _ (number_front w64 to.1) x e (λ weight is_weight e.
    option_and_then_some _ (number_front w32 weight.1) x e (λ middle is_middle e.
    option_and_then_some _ (middle_of middle.0) x e (λ via is_via e.
    let t0 = node_takes bytes from fits is_from in
    let t1 = node_takes from.1 to t0.0.rest_fits is_to in
    let t2 = number_takes w64 (2 ^ 64) wide64 to.1 weight t1.0.rest_fits is_weight in
    let t3 = number_takes w32 (2 ^ 32) wide32 weight.1 middle t2.0.rest_fits is_middle in
    let m = middle_takes middle.0 via is_via in
    let last : Takes weight.1 (to_be_bytes w32 (middle_number via)) middle.1 = subst (λ (n : ℕ). Takes weight.1 (to_be_bytes w32 n) middle.1) m.0 t3.0 in
    let two = Takes-then bytes (node_in_bytes from.0) from.1 (node_in_bytes to.0) to.1 t0.0 t1.0 in
    let three = Takes-then bytes (node_in_bytes from.0 ++ node_in_bytes to.0) to.1 (to_be_bytes w64 weight.0) weight.1 two t2.0 in
    let four = Takes-then bytes (node_in_bytes from.0 ++ node_in_bytes to.0 ++ to_be_bytes w64 weight.0) weight.1 (to_be_bytes w32 (middle_number via)) middle.1 three last in
    let made : Entry = record { from = from.0; to = to.0; weight = weight.0; via = via } in
    let g = cond_some (is_after pair_cmp before (from.0, to.0)) (made, middle.1) x e in
    subst (λ (y : Entry × List ℕ). Takes bytes (entry_text y.0) y.1 × FitsRow y.0 × NextPair before (key_of_entry y.0)) g.1
    (four, record { fits = record { from = t0.1; to = t1.1; via = m.1 }; weight = t2.1 }, g.0))))))

regroup4 : (a b c d rest : List ℕ) → ((a ++ b) ++ c) ++ d ++ rest ≡ a ++ (b ++ (c ++ (d ++ rest)))
regroup4 a b c d rest = simp append_assoc

pub entry_again : (before : Option (ℕ × ℕ)) (e : Entry) (rest : List ℕ) → FitsRow e → NextPair before (key_of_entry e) → entry_front before (entry_text e ++ rest) ≡ Some (e, rest)
unfolding entry_front
entry_again before e rest fits next =
    let from = node_in_bytes e.from in
    let to = node_in_bytes e.to in
    let weight = to_be_bytes w64 e.weight in
    let middle = to_be_bytes w32 (middle_number e.via) in
    ap (entry_front before) (regroup4 from to weight middle rest)
    ∙ and_then (node_at (from ++ (to ++ (weight ++ (middle ++ rest))))) _ (e.from, to ++ (weight ++ (middle ++ rest))) (Some (e, rest)) (node_again e.from (to ++ (weight ++ (middle ++ rest))) fits.fits.from)
    (and_then (node_at (to ++ (weight ++ (middle ++ rest)))) _ (e.to, weight ++ (middle ++ rest)) (Some (e, rest)) (node_again e.to (weight ++ (middle ++ rest)) fits.fits.to)
    (and_then (number_front w64 (weight ++ (middle ++ rest))) _ (e.weight, middle ++ rest) (Some (e, rest)) (number_again w64 (2 ^ 64) wide64 e.weight (middle ++ rest) fits.weight)
    (and_then (number_front w32 (middle ++ rest)) _ (middle_number e.via, rest) (Some (e, rest)) (number_again w32 (2 ^ 32) wide32 (middle_number e.via) rest (middle_fits e.via fits.fits.via))
    (and_then (middle_of (middle_number e.via)) _ e.via (Some (e, rest)) (middle_again e.via fits.fits.via)
    (ap (λ b. cond b (Some (e, rest)) None) next)))))

-- ---- witnesses

all_read_ok : {X : Type 0} (r : Result (List X × List ℕ) ℕ) (y : List X × List ℕ) → all_read r ≡ Some y → r ≡ Ok y
all_read_ok (Ok x) y e = (let same : x ≡ y = same_Some x y e in ap Ok same)
all_read_ok (Err left) y e = absurd (none-some y e)

pub witness_takes : (before : Option (ℕ × ℕ × ℕ)) (bytes : List ℕ) (x : WitnessLists × List ℕ) → IsBytes bytes → witness_at before bytes ≡ Some x
    → Takes bytes (witness_text x.0) x.1 × FitsWalk x.0 × NextThree before (key_of_witness x.0)
unfolding witness_at
witness_takes before bytes x fits e =
    option_and_then_some _ (node_at bytes) x e (λ below is_below e.
    option_and_then_some _ (number_front w64 below.1) x e (λ count is_count e.
    option_and_then_some _ (all_read (many_ascending next_node itself count.0 None count.1)) x e (λ nodes is_nodes e.
    let t0 = node_takes bytes below fits is_below in
    let t1 = number_takes w64 (2 ^ 64) wide64 below.1 count t0.0.rest_fits is_count in
    let t2 = nodes_take count.0 count.1 nodes t1.0.rest_fits (all_read_ok (many_ascending next_node itself count.0 None count.1) nodes is_nodes) in
    let long : Takes below.1 (to_be_bytes w64 (length nodes.0)) count.1 = subst (λ (n : ℕ). Takes below.1 (to_be_bytes w64 n) count.1) (sym t2.1) t1.0 in
    let two = Takes-then bytes (node_in_bytes below.0) below.1 (to_be_bytes w64 (length nodes.0)) count.1 t0.0 long in
    let three = Takes-then bytes (node_in_bytes below.0 ++ to_be_bytes w64 (length nodes.0)) count.1 (flat_map node_in_bytes nodes.0) nodes.1 two t2.0 in
    let made : WitnessLists = record { below = below.0; nodes = nodes.0 } in
    let g = cond_some (ltb 1 count.0 && is_after three_cmp before (key_of_witness made)) (made, nodes.1) x e in
    let tests = and_parts (ltb 1 count.0) (is_after three_cmp before (key_of_witness made)) g.0 in
    let some : 1 < count.0 = ltb-true _ _ tests.0 in
    subst (λ (y : WitnessLists × List ℕ). Takes bytes (witness_text y.0) y.1 × FitsWalk y.0 × NextThree before (key_of_witness y.0)) g.1
    (three, record { fits = record { below = t0.1; nodes = t2.2; is_walk = omega (arith, t2.1) }; short = omega (arith, t2.1, t1.1) }, tests.1))))

regroup3 : (a b c rest : List ℕ) → (a ++ b) ++ c ++ rest ≡ a ++ (b ++ (c ++ rest))
regroup3 a b c rest = simp append_assoc

pub witness_again : (before : Option (ℕ × ℕ × ℕ)) (w : WitnessLists) (rest : List ℕ) → FitsWalk w → NextThree before (key_of_witness w) → witness_at before (witness_text w ++ rest) ≡ Some (w, rest)
unfolding witness_at
witness_again before w rest fits next =
    let below = node_in_bytes w.below in
    let count = to_be_bytes w64 (length w.nodes) in
    let nodes = flat_map node_in_bytes w.nodes in
    let walk = fits.fits.is_walk in
    ap (witness_at before) (regroup3 below count nodes rest)
    ∙ and_then (node_at (below ++ (count ++ (nodes ++ rest)))) _ (w.below, count ++ (nodes ++ rest)) (Some (w, rest)) (node_again w.below (count ++ (nodes ++ rest)) fits.fits.below)
    (and_then (number_front w64 (count ++ (nodes ++ rest))) _ (length w.nodes, nodes ++ rest) (Some (w, rest)) (number_again w64 (2 ^ 64) wide64 (length w.nodes) (nodes ++ rest) fits.short)
    (and_then (all_read (many_ascending next_node itself (length w.nodes) None (nodes ++ rest))) _ (w.nodes, rest) (Some (w, rest)) (ap all_read (nodes_again w.nodes rest fits.fits.nodes))
    (ap (λ b. cond b (Some (w, rest)) None) (and_from (ltb 1 (length w.nodes)) (is_after three_cmp before (key_of_witness w)) (lt-ltb 1 (length w.nodes) (omega arith)) next))))
