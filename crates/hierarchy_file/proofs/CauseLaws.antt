-- Each refusal has its cause.
use Rattle.plan_base.proofs.Common.{◌≡◌, ℕ, ◌-◌, Bool, true, false, cond, eqb, List, ◌++◌, length, inl, inr, Some, None, Result, Ok, Err, refl, sym, ap, subst, ◌∙◌, append_assoc, arith, Option, IfErr, eqb-false}
use Rattle.hierarchy.specs.{Entry, HierarchyLists, WitnessLists, IsNode}
use Rattle.hierarchy_file.specs.{Counts, HFileFault, BadHead, BadRecord, Trailing, OutOfMemory, magic, counts_text, hierarchy_counts, node_in_bytes, entry_text, witness_text, records_text, hierarchy_text, FitsRow, FitsWalk, key_of_entry, key_of_witness, next_node, entry_front, witness_at, many_ascending, head_at, with_witnesses, with_entries, with_order, hierarchy_records, whole_hierarchy, of_head, hierarchy_of, GivesHierarchy, AreRows, StopsAt, AnyNext, itself, NextPair, NextThree, RecordsStop, HasHead, HasCause, IsNoHierarchy, IsRefusedHierarchy, SpellHierarchy, SpellNone}
use Rattle.file_records.proofs.{Steps.err_is, NumberLaws.IsBytes}
use Rattle.hierarchy_file.proofs.{ManyLaws.many_takes, ManyLaws.many_stops, RecordLaws.next_node_takes, RecordLaws.next_node_again, RecordLaws.entry_takes, RecordLaws.entry_again, RecordLaws.witness_takes, RecordLaws.witness_again, WholeLaws.head_takes, WholeLaws.head_again, WholeLaws.hierarchy_again, WholeLaws.records_take, WholeLaws.spelling_from}

abbrev Read : Type 0
Read = HierarchyLists × List ℕ

-- where the records stop
records_stop : (c : Counts) (bytes : List ℕ) (left : ℕ) → IsBytes bytes → hierarchy_records c bytes ≡ Err left → RecordsStop c bytes left
unfolding hierarchy_records
records_stop c bytes left fits e = by_order (many_ascending next_node itself c.order None bytes) refl e
  where
    by_witnesses : (order : List ℕ) (entries : List Entry) (rest : List ℕ) → IsBytes rest → (r : Result (List WitnessLists × List ℕ) ℕ) → many_ascending witness_at key_of_witness c.witnesses None rest ≡ r
        → with_witnesses order entries r ≡ Err left → StopsAt witness_text FitsWalk NextThree key_of_witness None c.witnesses rest left
    by_witnesses order entries rest fits (Ok x) is e = absurd cc
    by_witnesses order entries rest fits (Err l) is e =
        many_stops witness_at key_of_witness witness_text FitsWalk NextThree witness_takes witness_again c.witnesses None rest left fits (is ∙ ap Err (err_is l left e))

    by_entries : (order : List ℕ) (rest : List ℕ) → IsBytes rest → AreRows node_in_bytes IsNode AnyNext itself c.order bytes rest → (r : Result (List Entry × List ℕ) ℕ) → many_ascending entry_front key_of_entry c.entries None rest ≡ r
        → with_entries c order r ≡ Err left → RecordsStop c bytes left
    by_entries order rest fits rows (Err l) is e =
        inr (rest, rows, inl (many_stops entry_front key_of_entry entry_text FitsRow NextPair entry_takes entry_again c.entries None rest left fits (is ∙ ap Err (err_is l left e))))
    by_entries order rest fits rows (Ok x) is e =
        let taken = many_takes entry_front key_of_entry entry_text FitsRow NextPair entry_takes entry_again c.entries None rest x fits is in
        let more : AreRows entry_text FitsRow NextPair key_of_entry c.entries rest x.1 = record { rows = x.0; fit = taken.2; follow = taken.3; counted = taken.1; are = taken.0.parts } in
        inr (rest, rows, inr (x.1, more, by_witnesses order x.0 x.1 taken.0.rest_fits (many_ascending witness_at key_of_witness c.witnesses None x.1) refl e))

    by_order : (r : Result (List ℕ × List ℕ) ℕ) → many_ascending next_node itself c.order None bytes ≡ r → with_order c r ≡ Err left → RecordsStop c bytes left
    by_order (Err l) is e = inl (many_stops next_node itself node_in_bytes IsNode AnyNext next_node_takes next_node_again c.order None bytes left fits (is ∙ ap Err (err_is l left e)))
    by_order (Ok x) is e =
        let taken = many_takes next_node itself node_in_bytes IsNode AnyNext next_node_takes next_node_again c.order None bytes x fits is in
        let rows : AreRows node_in_bytes IsNode AnyNext itself c.order bytes x.1 = record { rows = x.0; fit = taken.2; follow = taken.3; counted = taken.1; are = taken.0.parts } in
        by_entries x.0 x.1 taken.0.rest_fits rows (many_ascending entry_front key_of_entry c.entries None x.1) refl e

-- the head, the records and what follows, as the spelling and what follows
text_is : (bytes : List ℕ) (c : Counts) (rest : List ℕ) (h : HierarchyLists) (more : List ℕ) → bytes ≡ (magic ++ counts_text c) ++ rest → rest ≡ records_text h ++ more → hierarchy_counts h ≡ c
    → bytes ≡ hierarchy_text h ++ more
unfolding hierarchy_text
text_is bytes c rest h more first second counts =
    first ∙ ap (λ t. (magic ++ counts_text c) ++ t) second ∙ sym (append_assoc (magic ++ counts_text c) (records_text h) more)
    ∙ ap (λ d. ((magic ++ counts_text d) ++ records_text h) ++ more) (sym counts)

-- what follows the head of the bytes
behind_head : (bytes : List ℕ) (head : Counts × List ℕ) (fault : HFileFault) → IsBytes bytes → head_at bytes ≡ Some head → whole_hierarchy (length bytes) (hierarchy_records head.0 head.1) ≡ Err fault → HasCause bytes fault
behind_head bytes head fault fits is e = by_records (hierarchy_records head.0 head.1) refl e
  where
    first : HasHead bytes head.0 head.1
    first = let t = head_takes bytes head fits is in record { fit = t.1; are = t.0.parts }

    by_records : (r : Result Read ℕ) → hierarchy_records head.0 head.1 ≡ r → whole_hierarchy (length bytes) r ≡ Err fault → HasCause bytes fault
    by_records (Err left) stopped e =
        let t = head_takes bytes head fits is in
        let same : BadRecord (length bytes - left) ≡ fault = cc in
        subst (HasCause bytes) same (record { counts = head.0; rest = head.1; left = left; head = first; stop = records_stop head.0 head.1 left t.0.rest_fits stopped; place = refl })
    by_records (Ok x) read e = by_end (eqb (length x.1) 0) refl e
      where
        by_end : (b : Bool) → eqb (length x.1) 0 ≡ b → ◌≡◌ {A = Result HierarchyLists HFileFault} (cond b (Ok x.0) (Err (Trailing (length bytes - length x.1)))) (Err fault) → HasCause bytes fault
        by_end true none e = absurd cc
        by_end false some e =
            let t = head_takes bytes head fits is in
            let r = records_take head.0 head.1 x t.0.rest_fits read in
            let same : Trailing (length bytes - length x.1) ≡ fault = cc in
            subst (HasCause bytes) same (record {
              hierarchy = x.0;
              rest = x.1;
              has = spelling_from head.0 x.0 t.1 r.1;
              are = text_is bytes head.0 head.1 x.0 x.1 t.0.parts r.0.parts r.1.counts;
              some = (let apart = eqb-false (length x.1) 0 some in omega (arith, apart));
              place = refl;
            })

-- no head, where none is read
no_head : (bytes : List ℕ) → head_at bytes ≡ None → (c : Counts) (rest : List ℕ) → HasHead bytes c rest → ⊥
no_head bytes none c rest has = clash (sym none ∙ ap head_at (has.are ∙ append_assoc magic (counts_text c) rest) ∙ head_again c rest has.fit)
  where
    clash : ◌≡◌ {A = Option (Counts × List ℕ)} None (Some (c, rest)) → ⊥
    clash e = cc

pub has_cause : (bytes : List ℕ) (fault : HFileFault) → IsBytes bytes → hierarchy_of bytes ≡ Err fault → HasCause bytes fault
unfolding hierarchy_of
has_cause bytes fault fits e = by_head (head_at bytes) refl e
  where
    by_head : (o : Option (Counts × List ℕ)) → head_at bytes ≡ o → of_head (length bytes) o ≡ Err fault → HasCause bytes fault
    by_head None is e = (let same : BadHead ≡ fault = cc in subst (HasCause bytes) same (no_head bytes is))
    by_head (Some head) is e = behind_head bytes head fault fits is e

pub gives_cause : (bytes : List ℕ) (r : Result HierarchyLists HFileFault) → IsBytes bytes → GivesHierarchy r (hierarchy_of bytes) → IfErr r (HasCause bytes)
gives_cause bytes (Ok h) fits given = tt
gives_cause bytes (Err OutOfMemory) fits given = tt
gives_cause bytes (Err BadHead) fits given = has_cause bytes BadHead fits given
gives_cause bytes (Err (BadRecord at)) fits given = has_cause bytes (BadRecord at) fits given
gives_cause bytes (Err (Trailing at)) fits given = has_cause bytes (Trailing at) fits given

-- ---- no two hierarchies are spelled by the same bytes, and none is where they are refused

pub spell_one : (bytes : List ℕ) (h k : HierarchyLists) → SpellHierarchy bytes h → SpellHierarchy bytes k → h ≡ k
spell_one bytes h k (has, one) (other, two) =
    let first = ap hierarchy_of one ∙ hierarchy_again h has in
    let second = ap hierarchy_of two ∙ hierarchy_again k other in
    cc

pub no_hierarchy : (bytes : List ℕ) (h : HierarchyLists) (fault : HFileFault) → SpellHierarchy bytes h → IsNoHierarchy bytes fault → ⊥
no_hierarchy bytes h BadHead is none = none.0 h is
no_hierarchy bytes h (BadRecord at) is none = none.0 h is
no_hierarchy bytes h (Trailing at) is none = none.0 h is
no_hierarchy bytes h OutOfMemory is none = none

spell_none : (bytes : List ℕ) (fault : HFileFault) → hierarchy_of bytes ≡ Err fault → SpellNone bytes
spell_none bytes fault e h (has, is) = let again = ap hierarchy_of is ∙ hierarchy_again h has in absurd (cc)

pub gives_none : (bytes : List ℕ) (r : Result HierarchyLists HFileFault) → IsBytes bytes → GivesHierarchy r (hierarchy_of bytes)
    → IfErr r (IsRefusedHierarchy bytes)
gives_none bytes (Ok h) fits given = tt
gives_none bytes (Err OutOfMemory) fits given = tt
gives_none bytes (Err BadHead) fits given = (spell_none bytes BadHead given, has_cause bytes BadHead fits given)
gives_none bytes (Err (BadRecord at)) fits given = (spell_none bytes (BadRecord at) given, has_cause bytes (BadRecord at) fits given)
gives_none bytes (Err (Trailing at)) fits given = (spell_none bytes (Trailing at) given, has_cause bytes (Trailing at) fits given)
