-- The two laws of the whole: what is read keeps the rules and is spelled so, and what is spelled so is read.
use Rattle.plan_base.proofs.Common.{◌≡◌, ℕ, ◌-◌, ◌^◌, ◌<◌, Bool, true, false, cond, eqb, List, [], ◌++◌, length, take, drop, Some, None, Result, Ok, Err, refl, sym, ap, subst, ◌∙◌, append_assoc, append-nil, Option, All, IfOk, flat_map, bytes_eq, w64, to_be_bytes, IsTotalOrder, eqb-true, then_total, on_total, nat_cmp_total, nil_from_length, All-from_recursion, recursion_from_All, All-weaker, same_Some, cond_some, option_and_then_some}
use Rattle.hierarchy.specs.{Entry, HierarchyLists, WitnessLists, IsHierarchy, IsNode, FitsEntry, FitsWitness, entry_cmp, witness_cmp}
use Rattle.mode_network.specs.{IsAscending}
use Rattle.hierarchy_file.specs.{Counts, HFileFault, Trailing, magic, counts_text, hierarchy_counts, node_in_bytes, entry_text, witness_text, records_text, hierarchy_text, HasSpelling, FitEightBytes, FitsRow, FitsWalk, key_of_entry, key_of_witness, pair_cmp, three_cmp, next_node, entry_front, witness_at, many_ascending, behind_magic, counts_at, head_at, with_witnesses, with_entries, with_order, hierarchy_records, whole_hierarchy, of_head, hierarchy_of, GivesHierarchy, itself, NextPair, NextThree}
use Rattle.file_records.specs.{number_front}
use Rattle.file_records.proofs.{Steps.and_then, NumberLaws.IsBytes, NumberLaws.Takes, NumberLaws.Takes-then, NumberLaws.begins_with, NumberLaws.wide64, NumberLaws.number_takes, NumberLaws.number_again}
use Rattle.hierarchy_file.proofs.{ManyLaws.many_takes, ManyLaws.many_again, ManyLaws.ascending_from, ManyLaws.follow_from, RecordLaws.nodes_take, RecordLaws.nodes_again, RecordLaws.entry_takes, RecordLaws.entry_again, RecordLaws.witness_takes, RecordLaws.witness_again}

-- ---- the head

counts_take : (bytes : List ℕ) (x : Counts × List ℕ) → IsBytes bytes → counts_at bytes ≡ Some x → Takes bytes (counts_text x.0) x.1 × FitEightBytes x.0
unfolding counts_at
counts_take bytes x fits e =
    option_and_then_some _ (number_front w64 bytes) x e (λ order is_order e.
    option_and_then_some _ (number_front w64 order.1) x e (λ entries is_entries e.
    option_and_then_some _ (number_front w64 entries.1) x e (λ witnesses is_witnesses e.
    let t0 = number_takes w64 (2 ^ 64) wide64 bytes order fits is_order in
    let t1 = number_takes w64 (2 ^ 64) wide64 order.1 entries t0.0.rest_fits is_entries in
    let t2 = number_takes w64 (2 ^ 64) wide64 entries.1 witnesses t1.0.rest_fits is_witnesses in
    let two = Takes-then bytes (to_be_bytes w64 order.0) order.1 (to_be_bytes w64 entries.0) entries.1 t0.0 t1.0 in
    let three = Takes-then bytes (to_be_bytes w64 order.0 ++ to_be_bytes w64 entries.0) entries.1 (to_be_bytes w64 witnesses.0) witnesses.1 two t2.0 in
    let made : Counts = record { order = order.0; entries = entries.0; witnesses = witnesses.0 } in
    let same : ◌≡◌ {A = Counts × List ℕ} (made, witnesses.1) x = same_Some (made, witnesses.1) x e in
    subst (λ (y : Counts × List ℕ). Takes bytes (counts_text y.0) y.1 × FitEightBytes y.0) same (three, record { order = t0.1; entries = t1.1; witnesses = t2.1 }))))

regroup3 : (a b c rest : List ℕ) → (a ++ b) ++ c ++ rest ≡ a ++ (b ++ (c ++ rest))
regroup3 a b c rest = simp append_assoc

counts_again : (c : Counts) (rest : List ℕ) → FitEightBytes c → counts_at (counts_text c ++ rest) ≡ Some (c, rest)
unfolding counts_at
counts_again c rest fits =
    let order = to_be_bytes w64 c.order in
    let entries = to_be_bytes w64 c.entries in
    let witnesses = to_be_bytes w64 c.witnesses in
    ap counts_at (regroup3 order entries witnesses rest)
    ∙ and_then (number_front w64 (order ++ (entries ++ (witnesses ++ rest)))) _ (c.order, entries ++ (witnesses ++ rest)) (Some (c, rest)) (number_again w64 (2 ^ 64) wide64 c.order (entries ++ (witnesses ++ rest)) fits.order)
    (and_then (number_front w64 (entries ++ (witnesses ++ rest))) _ (c.entries, witnesses ++ rest) (Some (c, rest)) (number_again w64 (2 ^ 64) wide64 c.entries (witnesses ++ rest) fits.entries)
    (and_then (number_front w64 (witnesses ++ rest)) _ (c.witnesses, rest) (Some (c, rest)) (number_again w64 (2 ^ 64) wide64 c.witnesses rest fits.witnesses) refl))

magic_takes : (bytes rest : List ℕ) → IsBytes bytes → behind_magic bytes ≡ Some rest → Takes bytes magic rest
unfolding behind_magic
magic_takes bytes rest fits e =
    let g = cond_some (bytes_eq (take (length magic) bytes) magic) (drop (length magic) bytes) rest e in
    subst (Takes bytes magic) g.1 (begins_with magic bytes fits g.0)

magic_again : (rest : List ℕ) → behind_magic (magic ++ rest) ≡ Some rest
unfolding behind_magic
magic_again rest = refl

pub head_takes : (bytes : List ℕ) (x : Counts × List ℕ) → IsBytes bytes → head_at bytes ≡ Some x → Takes bytes (magic ++ counts_text x.0) x.1 × FitEightBytes x.0
unfolding head_at
head_takes bytes x fits e =
    option_and_then_some _ (behind_magic bytes) x e (λ rest is_rest e.
    let first = magic_takes bytes rest fits is_rest in
    let second = counts_take rest x first.rest_fits e in
    (Takes-then bytes magic rest (counts_text x.0) x.1 first second.0, second.1))

pub head_again : (c : Counts) (rest : List ℕ) → FitEightBytes c → head_at (magic ++ (counts_text c ++ rest)) ≡ Some (c, rest)
unfolding head_at
head_again c rest fits = and_then (behind_magic (magic ++ (counts_text c ++ rest))) _ (counts_text c ++ rest) (Some (c, rest)) (magic_again (counts_text c ++ rest)) (counts_again c rest fits)

-- ---- the records

pair_total : IsTotalOrder pair_cmp
pair_total = then_total (on_total (λ (p : ℕ × ℕ). p.0) nat_cmp_total) (on_total (λ (p : ℕ × ℕ). p.1) nat_cmp_total)

three_total : IsTotalOrder three_cmp
three_total =
    then_total (then_total (on_total (λ (p : ℕ × ℕ × ℕ). p.0) nat_cmp_total) (on_total (λ (p : ℕ × ℕ × ℕ). p.1) nat_cmp_total)) (on_total (λ (p : ℕ × ℕ × ℕ). p.2) nat_cmp_total)

entries_take : (n : ℕ) (bytes : List ℕ) (y : List Entry × List ℕ) → IsBytes bytes → many_ascending entry_front key_of_entry n None bytes ≡ Ok y
    → Takes bytes (flat_map entry_text y.0) y.1 × (length y.0 ≡ n) × All FitsRow y.0 × IsAscending entry_cmp y.0
entries_take n bytes y fits e =
    let taken = many_takes entry_front key_of_entry entry_text FitsRow NextPair entry_takes entry_again n None bytes y fits e in
    (taken.0, taken.1, All-from_recursion FitsRow y.0 taken.2, ascending_from pair_cmp pair_total key_of_entry None y.0 taken.3)

entries_again : (entries : List Entry) (rest : List ℕ) → All FitsRow entries → IsAscending entry_cmp entries
    → many_ascending entry_front key_of_entry (length entries) None (flat_map entry_text entries ++ rest) ≡ Ok (entries, rest)
entries_again entries rest fits ascend =
    many_again entry_front key_of_entry entry_text FitsRow NextPair entry_takes entry_again entries None rest (recursion_from_All FitsRow entries fits)
    (follow_from pair_cmp pair_total key_of_entry entries ascend)

witnesses_take : (n : ℕ) (bytes : List ℕ) (y : List WitnessLists × List ℕ) → IsBytes bytes → many_ascending witness_at key_of_witness n None bytes ≡ Ok y
    → Takes bytes (flat_map witness_text y.0) y.1 × (length y.0 ≡ n) × All FitsWalk y.0 × IsAscending witness_cmp y.0
witnesses_take n bytes y fits e =
    let taken = many_takes witness_at key_of_witness witness_text FitsWalk NextThree witness_takes witness_again n None bytes y fits e in
    (taken.0, taken.1, All-from_recursion FitsWalk y.0 taken.2, ascending_from three_cmp three_total key_of_witness None y.0 taken.3)

witnesses_again : (witnesses : List WitnessLists) (rest : List ℕ) → All FitsWalk witnesses → IsAscending witness_cmp witnesses
    → many_ascending witness_at key_of_witness (length witnesses) None (flat_map witness_text witnesses ++ rest) ≡ Ok (witnesses, rest)
witnesses_again witnesses rest fits ascend =
    many_again witness_at key_of_witness witness_text FitsWalk NextThree witness_takes witness_again witnesses None rest (recursion_from_All FitsWalk witnesses fits)
    (follow_from three_cmp three_total key_of_witness witnesses ascend)

-- what the records of a hierarchy are, by list
pub record AreRecords (c : Counts) (h : HierarchyLists) : Type 0 where
  pub counts : hierarchy_counts h ≡ c
  pub order : All IsNode h.order
  pub entries : All FitsRow h.entries
  pub entries_ascend : IsAscending entry_cmp h.entries
  pub witnesses : All FitsWalk h.witnesses
  pub witnesses_ascend : IsAscending witness_cmp h.witnesses

abbrev pub AllRead : Type 0
AllRead = HierarchyLists × List ℕ

order_ok : (c : Counts) (r : Result (List ℕ × List ℕ) ℕ) (y : AllRead) → with_order c r ≡ Ok y
    → (x : List ℕ × List ℕ) × (r ≡ Ok x) × (with_entries c x.0 (many_ascending entry_front key_of_entry c.entries None x.1) ≡ Ok y)
order_ok c (Ok x) y e = (x, refl, e)
order_ok c (Err left) y e = absurd cc

entries_ok : (c : Counts) (order : List ℕ) (r : Result (List Entry × List ℕ) ℕ) (y : AllRead) → with_entries c order r ≡ Ok y
    → (x : List Entry × List ℕ) × (r ≡ Ok x) × (with_witnesses order x.0 (many_ascending witness_at key_of_witness c.witnesses None x.1) ≡ Ok y)
entries_ok c order (Ok x) y e = (x, refl, e)
entries_ok c order (Err left) y e = absurd cc

witnesses_ok : (order : List ℕ) (entries : List Entry) (r : Result (List WitnessLists × List ℕ) ℕ) (y : AllRead) → with_witnesses order entries r ≡ Ok y
    → (x : List WitnessLists × List ℕ) × (r ≡ Ok x) × (y ≡ (record { order = order; entries = entries; witnesses = x.0 }, x.1))
witnesses_ok order entries (Ok x) y e = (x, refl, (let same : ◌≡◌ {A = AllRead} (record { order = order; entries = entries; witnesses = x.0 }, x.1) y = cc in sym same))
witnesses_ok order entries (Err left) y e = absurd cc

pub records_take : (c : Counts) (bytes : List ℕ) (y : AllRead) → IsBytes bytes → hierarchy_records c bytes ≡ Ok y → Takes bytes (records_text y.0) y.1 × AreRecords c y.0
unfolding hierarchy_records
records_take c bytes y fits e =
    let order = order_ok c (many_ascending next_node itself c.order None bytes) y e in
    let entries = entries_ok c order.0.0 (many_ascending entry_front key_of_entry c.entries None order.0.1) y order.2 in
    let witnesses = witnesses_ok order.0.0 entries.0.0 (many_ascending witness_at key_of_witness c.witnesses None entries.0.1) y entries.2 in
    let t0 = nodes_take c.order bytes order.0 fits order.1 in
    let t1 = entries_take c.entries order.0.1 entries.0 t0.0.rest_fits entries.1 in
    let t2 = witnesses_take c.witnesses entries.0.1 witnesses.0 t1.0.rest_fits witnesses.1 in
    let two = Takes-then bytes (flat_map node_in_bytes order.0.0) order.0.1 (flat_map entry_text entries.0.0) entries.0.1 t0.0 t1.0 in
    let three = Takes-then bytes (flat_map node_in_bytes order.0.0 ++ flat_map entry_text entries.0.0) entries.0.1 (flat_map witness_text witnesses.0.0) witnesses.0.1 two t2.0 in
    let counts : ◌≡◌ {A = Counts} (record { order = length order.0.0; entries = length entries.0.0; witnesses = length witnesses.0.0 }) c =
    ap (λ (n : ℕ). record { order = n; entries = length entries.0.0; witnesses = length witnesses.0.0 }) t0.1
    ∙ ap (λ (n : ℕ). record { order = c.order; entries = n; witnesses = length witnesses.0.0 }) t1.1 ∙ ap (λ (n : ℕ). record { order = c.order; entries = c.entries; witnesses = n }) t2.1 in
    subst (λ (z : AllRead). Takes bytes (records_text z.0) z.1 × AreRecords c z.0) (sym witnesses.2)
    (three, record { counts = counts; order = t0.2; entries = t1.2; entries_ascend = t1.3; witnesses = t2.2; witnesses_ascend = t2.3 })

records_again : (c : Counts) (h : HierarchyLists) (rest : List ℕ) → AreRecords c h → hierarchy_records c (records_text h ++ rest) ≡ Ok (h, rest)
unfolding hierarchy_records
records_again c h rest are =
    let order = flat_map node_in_bytes h.order in
    let entries = flat_map entry_text h.entries in
    let witnesses = flat_map witness_text h.witnesses in
    subst (λ (d : Counts). with_order d (many_ascending next_node itself d.order None (records_text h ++ rest)) ≡ Ok (h, rest)) are.counts
    (ap (λ t. with_order (hierarchy_counts h) (many_ascending next_node itself (length h.order) None t)) (regroup3 order entries witnesses rest)
    ∙ ap (with_order (hierarchy_counts h)) (nodes_again h.order (entries ++ (witnesses ++ rest)) are.order)
    ∙ ap (with_entries (hierarchy_counts h) h.order) (entries_again h.entries (witnesses ++ rest) are.entries are.entries_ascend)
    ∙ ap (with_witnesses h.order h.entries) (witnesses_again h.witnesses rest are.witnesses are.witnesses_ascend))

-- ---- the whole

rules_from : (c : Counts) (h : HierarchyLists) → AreRecords c h → IsHierarchy h
rules_from c h are = record {
  order_fits = are.order;
  entries_fit = All-weaker FitsRow FitsEntry (λ e row. row.fits) h.entries are.entries;
  entries_ascend = are.entries_ascend;
  witnesses_fit = All-weaker FitsWalk FitsWitness (λ w walk. walk.fits) h.witnesses are.witnesses;
  witnesses_ascend = are.witnesses_ascend;
}

-- what is read keeps the rules
pub rules_read : (c : Counts) (bytes : List ℕ) (y : AllRead) → IsBytes bytes → hierarchy_records c bytes ≡ Ok y → IsHierarchy y.0
rules_read c bytes y fits e = rules_from c y.0 (records_take c bytes y fits e).1

pub spelling_from : (c : Counts) (h : HierarchyLists) → FitEightBytes c → AreRecords c h → HasSpelling h
spelling_from c h fits are =
    let whole = subst FitEightBytes (sym are.counts) fits in
    record {
      rules = rules_from c h are;
      order_short = whole.order;
      entries_short = whole.entries;
      witnesses_short = whole.witnesses;
      weights_fit = All-weaker FitsRow (λ (e : Entry). e.weight < 2 ^ 64) (λ e row. row.weight) h.entries are.entries;
      nodes_short = All-weaker FitsWalk (λ (w : WitnessLists). length w.nodes < 2 ^ 64) (λ w walk. walk.short) h.witnesses are.witnesses;
    }

records_from : (h : HierarchyLists) → HasSpelling h → AreRecords (hierarchy_counts h) h
records_from h has = record {
  counts = refl;
  order = has.rules.order_fits;
  entries = λ k d lt. record { fits = has.rules.entries_fit k d lt; weight = has.weights_fit k d lt };
  entries_ascend = has.rules.entries_ascend;
  witnesses = λ k d lt. record { fits = has.rules.witnesses_fit k d lt; short = has.nodes_short k d lt };
  witnesses_ascend = has.rules.witnesses_ascend;
}

ended_ok : (len : ℕ) (r : Result AllRead ℕ) (h : HierarchyLists) → whole_hierarchy len r ≡ Ok h → (x : AllRead) × (r ≡ Ok x) × (x.1 ≡ []) × (x.0 ≡ h)
ended_ok len (Err left) h e = absurd cc
ended_ok len (Ok x) h e = by_end (eqb (length x.1) 0) refl e
  where
    by_end : (b : Bool) → eqb (length x.1) 0 ≡ b → ◌≡◌ {A = Result HierarchyLists HFileFault} (cond b (Ok x.0) (Err (Trailing (len - length x.1)))) (Ok h) → (y : AllRead) × (◌≡◌ {A = Result AllRead ℕ} (Ok x) (Ok y)) × (y.1 ≡ []) × (y.0 ≡ h)
    by_end true none e = (x, refl, nil_from_length x.1 (eqb-true _ _ none), cc)
    by_end false some e = absurd cc

head_ok : (len : ℕ) (o : Option (Counts × List ℕ)) (h : HierarchyLists) → of_head len o ≡ Ok h → (x : Counts × List ℕ) × (o ≡ Some x) × (whole_hierarchy len (hierarchy_records x.0 x.1) ≡ Ok h)
head_ok len None h e = absurd cc
head_ok len (Some x) h e = (x, refl, e)

pub hierarchy_takes : (bytes : List ℕ) (h : HierarchyLists) → IsBytes bytes → hierarchy_of bytes ≡ Ok h → HasSpelling h × (bytes ≡ hierarchy_text h)
unfolding hierarchy_of hierarchy_text
hierarchy_takes bytes h fits e =
    let head = head_ok (length bytes) (head_at bytes) h e in
    let records = ended_ok (length bytes) (hierarchy_records head.0.0 head.0.1) h head.2 in
    let first = head_takes bytes head.0 fits head.1 in
    let second = records_take head.0.0 head.0.1 records.0 first.0.rest_fits records.1 in
    let both = Takes-then bytes (magic ++ counts_text head.0.0) head.0.1 (records_text records.0.0) records.0.1 first.0 second.0 in
    let text = (magic ++ counts_text head.0.0) ++ records_text records.0.0 in
    let whole : bytes ≡ text = both.parts ∙ ap (λ t. text ++ t) records.2 ∙ append-nil text in
    let same : bytes ≡ hierarchy_text records.0.0 = whole ∙ ap (λ c. (magic ++ counts_text c) ++ records_text records.0.0) (sym second.1.counts) in
    subst (λ (g : HierarchyLists). HasSpelling g × (bytes ≡ hierarchy_text g)) records.3 (spelling_from head.0.0 records.0.0 first.1 second.1, same)

pub hierarchy_again : (h : HierarchyLists) → HasSpelling h → hierarchy_of (hierarchy_text h) ≡ Ok h
unfolding hierarchy_of hierarchy_text
hierarchy_again h has =
    let c = hierarchy_counts h in
    let fits : FitEightBytes c = record { order = has.order_short; entries = has.entries_short; witnesses = has.witnesses_short } in
    let len = length (hierarchy_text h) in
    let head : head_at (hierarchy_text h) ≡ Some (c, records_text h) = ap head_at (append_assoc magic (counts_text c) (records_text h)) ∙ head_again c (records_text h) fits in
    let records : hierarchy_records c (records_text h) ≡ Ok (h, []) = ap (hierarchy_records c) (sym (append-nil (records_text h))) ∙ records_again c h [] (records_from h has) in
    ap (of_head len) head ∙ ap (whole_hierarchy len) records

-- what is written piece by piece is the spelling
pub written : (h : HierarchyLists) (n0 n1 n2 n3 n4 : List ℕ) (c : Counts) (order : List ℕ) (entries : List Entry) (witnesses : List WitnessLists)
    → order ≡ h.order → entries ≡ h.entries → witnesses ≡ h.witnesses → c ≡ hierarchy_counts h → n0 ≡ []
    → n1 ≡ n0 ++ (magic ++ counts_text c) → n2 ≡ n1 ++ flat_map node_in_bytes order → n3 ≡ n2 ++ flat_map entry_text entries → n4 ≡ n3 ++ flat_map witness_text witnesses
    → n4 ≡ hierarchy_text h
unfolding hierarchy_text
written h n0 n1 n2 n3 n4 c order entries witnesses is_order is_entries is_witnesses is_counts none head nodes rows walks =
    let first : n1 ≡ magic ++ counts_text (hierarchy_counts h) = head ∙ ap (λ o. o ++ (magic ++ counts_text c)) none ∙ ap (λ d. magic ++ counts_text d) is_counts in
    let front = magic ++ counts_text (hierarchy_counts h) in
    let second : n2 ≡ front ++ flat_map node_in_bytes h.order = nodes ∙ ap (λ o. o ++ flat_map node_in_bytes order) first ∙ ap (λ xs. front ++ flat_map node_in_bytes xs) is_order in
    let third : n3 ≡ (front ++ flat_map node_in_bytes h.order) ++ flat_map entry_text h.entries =
    rows ∙ ap (λ o. o ++ flat_map entry_text entries) second ∙ ap (λ xs. (front ++ flat_map node_in_bytes h.order) ++ flat_map entry_text xs) is_entries in
    let fourth : n4 ≡ ((front ++ flat_map node_in_bytes h.order) ++ flat_map entry_text h.entries) ++ flat_map witness_text h.witnesses =
    walks ∙ ap (λ o. o ++ flat_map witness_text witnesses) third ∙ ap (λ xs. ((front ++ flat_map node_in_bytes h.order) ++ flat_map entry_text h.entries) ++ flat_map witness_text xs) is_witnesses in
    fourth ∙ regroup3 front (flat_map node_in_bytes h.order) (flat_map entry_text h.entries) (flat_map witness_text h.witnesses)
    ∙ ap (λ t. front ++ t) (sym (append_assoc (flat_map node_in_bytes h.order) (flat_map entry_text h.entries) (flat_map witness_text h.witnesses)))

-- ---- what a reading gave

pub gives_found : (bytes : List ℕ) (r : Result HierarchyLists HFileFault) → IsBytes bytes → GivesHierarchy r (hierarchy_of bytes) → IfOk r (λ h. HasSpelling h × (bytes ≡ hierarchy_text h))
gives_found bytes (Ok h) fits given = hierarchy_takes bytes h fits given
gives_found bytes (Err fault) fits given = tt

pub gives_only : (bytes : List ℕ) (r : Result HierarchyLists HFileFault) → GivesHierarchy r (hierarchy_of bytes) → (h : HierarchyLists) → HasSpelling h → bytes ≡ hierarchy_text h
    → GivesHierarchy r (Ok h)
gives_only bytes r given h has e = subst (λ read. GivesHierarchy r read) (ap hierarchy_of e ∙ hierarchy_again h has) given
