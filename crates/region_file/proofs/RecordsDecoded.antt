-- What bytes spell as records: the laws of the whole.
use Rattle.plan_base.proofs.Common.{◌≡◌, ℕ, ◌+◌, ◌-◌, Bool, true, false, cond, eqb, List, [], ◌++◌, length, Some, None, Result, Ok, Err, refl, sym, ap, ap₂, subst, ◌∙◌, append_assoc, append-nil, length-append, arith, inr, Option, flat_map, eqb-true, eqb-false, nil_from_length, none-some}
use Rattle.plan_base.specs.{Caps}
use Rattle.service_days.specs.DaysMeaning.{DaysMeaning}
use Rattle.mode_network.specs.NetworkLists.{NetworkLists}
use Rattle.region_file.specs.{Counts, RegionFault, BadHead, BadRecord, Trailing, FitCounts, counts_of, head_bytes, magic_of, record_bytes, region_bytes, head_front, IsRegion, region_lines, lists_in, network_behind, network_records, whole_network, BeginsWith, HasCause, HasHeadLine, IsBadRecord, IsInBytes, behind_head}
use Rattle.region_file.proofs.{CauseLaws.records_bad, HeadLaws.head_again, HeadLaws.head_takes, WholeLaws.records_again, WholeLaws.records_take}
use Rattle.file_records.proofs.NumberLaws.{IsBytes}

fault_is : (x y : RegionFault) → ◌≡◌ {A = Result NetworkLists RegionFault} (Err x) (Err y) → x ≡ y
fault_is x y e = cc

lists_are : (x y : NetworkLists) → ◌≡◌ {A = Result NetworkLists RegionFault} (Ok x) (Ok y) → x ≡ y
lists_are x y e = cc

-- the head, the records and what follows them
text_is : (bytes : List ℕ) (days : DaysMeaning) (c : Counts) (rest more : List ℕ) (n : NetworkLists) → bytes ≡ head_bytes days c ++ rest → rest ≡ flat_map record_bytes (region_lines n) ++ more → n.days ≡ days → counts_of n ≡ c
    → bytes ≡ region_bytes n ++ more
unfolding region_bytes
text_is bytes days c rest more n first second dated counted =
    first ∙ ap₂ (λ d k. head_bytes d k ++ rest) (sym dated) (sym counted)
    ∙ ap (λ t. head_bytes n.days (counts_of n) ++ t) second
    ∙ sym (append_assoc (head_bytes n.days (counts_of n)) (flat_map record_bytes (region_lines n)) more)

module _ (bytes : List ℕ) (fits : IsBytes bytes) where
  -- What is read is spelled so.
  pub records_found : (n : NetworkLists) → lists_in bytes ≡ Ok n → IsRegion n × IsInBytes bytes n
  unfolding lists_in
  records_found n e = by_head (head_front bytes) refl e
    where
      by_read : (head : (DaysMeaning × Counts) × List ℕ) → head_front bytes ≡ Some head → (r : Result (NetworkLists × List ℕ) ℕ) → network_records head.0.0 head.0.1 head.1 ≡ r → whole_network (length bytes) r ≡ Ok n → IsRegion n × IsInBytes bytes n
      by_read head is (Err left) read e = absurd cc
      by_read head is (Ok x) read e = by_end (eqb (length x.1) 0) refl e
        where
          by_end : (b : Bool) → eqb (length x.1) 0 ≡ b → ◌≡◌ {A = Result NetworkLists RegionFault} (cond b (Ok x.0) (Err (Trailing (length bytes - length x.1)))) (Ok n) → IsRegion n × IsInBytes bytes n
          by_end false some e = absurd cc
          by_end true none e =
              let t = head_takes bytes head fits is in
              let r = records_take head.0.0 head.0.1 head.1 x t.1 t.0.rest_fits read in
              let nothing : x.1 ≡ [] = nil_from_length x.1 (eqb-true (length x.1) 0 none) in
              let text = text_is bytes head.0.0 head.0.1 head.1 x.1 x.0 t.0.parts r.taken.parts r.days_are r.counted in
              let all : bytes ≡ region_bytes x.0 = text ∙ ap (λ t. region_bytes x.0 ++ t) nothing ∙ append-nil (region_bytes x.0) in
              subst (λ m. IsRegion m × IsInBytes bytes m) (lists_are x.0 n e) (r.region, record { counts = subst FitCounts (sym r.counted) t.2; spelled = all })

      by_head : (o : Option ((DaysMeaning × Counts) × List ℕ)) → head_front bytes ≡ o → network_behind (length bytes) o ≡ Ok n → IsRegion n × IsInBytes bytes n
      by_head None is e = absurd cc
      by_head (Some head) is e = by_read head is (network_records head.0.0 head.0.1 head.1) refl e

  no_head : head_front bytes ≡ None → (days : DaysMeaning) (c : Counts) (rest : List ℕ) → BeginsWith bytes days c rest → ⊥
  no_head none days c rest h = none-some ((days, c), rest) (sym none ∙ ap head_front h.are ∙ head_again days c rest h.days_fit h.counts_fit)

  bad_record : (head : (DaysMeaning × Counts) × List ℕ) → head_front bytes ≡ Some head → (left : ℕ) → network_records head.0.0 head.0.1 head.1 ≡ Err left → IsBadRecord bytes (length bytes - left)
  bad_record head is left read =
      let t = head_takes bytes head fits is in
      let h = records_bad head.0.0 head.0.1 left head.1 t.0.rest_fits read in
      let are : bytes ≡ head_bytes head.0.0 head.0.1 ++ (flat_map record_bytes h.records ++ h.rest) = t.0.parts ∙ ap (λ r. head_bytes head.0.0 head.0.1 ++ r) h.are in
      let long : length bytes ≡ length (head_bytes head.0.0 head.0.1) + (length (flat_map record_bytes h.records) + length h.rest) =
      ap length are ∙ length-append (head_bytes head.0.0 head.0.1) (flat_map record_bytes h.records ++ h.rest) ∙ ap (λ k. length (head_bytes head.0.0 head.0.1) + k) (length-append (flat_map record_bytes h.records) h.rest) in
      record {
        days = head.0.0;
        counts = head.0.1;
        records = h.records;
        due = h.due;
        rest = h.rest;
        begins = record { days_fit = t.1; counts_fit = t.2; are = are };
        fit = h.fit;
        run = h.run;
        some = h.some;
        none = h.none;
        place = omega (arith, h.left_is, long);
      }

  -- A refusal has its cause.
  pub records_cause : (caps : Caps) (fault : RegionFault) → ((text : List ℕ) → HasHeadLine bytes text → ⊥) → lists_in bytes ≡ Err fault → HasCause caps bytes fault
  unfolding lists_in
  records_cause caps fault no_text e = by_head (head_front bytes) refl e
    where
      by_read : (head : (DaysMeaning × Counts) × List ℕ) → head_front bytes ≡ Some head → (r : Result (NetworkLists × List ℕ) ℕ) → network_records head.0.0 head.0.1 head.1 ≡ r → whole_network (length bytes) r ≡ Err fault → HasCause caps bytes fault
      by_read head is (Err left) read e = subst (HasCause caps bytes) (fault_is (BadRecord (length bytes - left)) fault e) (inr (bad_record head is left read))
      by_read head is (Ok x) read e = by_end (eqb (length x.1) 0) refl e
        where
          by_end : (b : Bool) → eqb (length x.1) 0 ≡ b → ◌≡◌ {A = Result NetworkLists RegionFault} (cond b (Ok x.0) (Err (Trailing (length bytes - length x.1)))) (Err fault) → HasCause caps bytes fault
          by_end true none e = absurd cc
          by_end false some e =
              let t = head_takes bytes head fits is in
              let r = records_take head.0.0 head.0.1 head.1 x t.1 t.0.rest_fits read in
              let text = text_is bytes head.0.0 head.0.1 head.1 x.1 x.0 t.0.parts r.taken.parts r.days_are r.counted in
              let apart = eqb-false (length x.1) 0 some in
              let long : length bytes ≡ length (region_bytes x.0) + length x.1 = ap length text ∙ length-append (region_bytes x.0) x.1 in
              subst (HasCause caps bytes) (fault_is (Trailing (length bytes - length x.1)) fault e)
              (inr (record { network = x.0; rest = x.1; region = r.region; counts = subst FitCounts (sym r.counted) t.2; are = text; some = omega (arith, apart); place = omega (arith, long) }))

      by_head : (o : Option ((DaysMeaning × Counts) × List ℕ)) → head_front bytes ≡ o → network_behind (length bytes) o ≡ Err fault → HasCause caps bytes fault
      by_head None is e = subst (HasCause caps bytes) (fault_is BadHead fault e) (no_text, no_head is)
      by_head (Some head) is e = by_read head is (network_records head.0.0 head.0.1 head.1) refl e

-- What is spelled so is read.
pub lists_in_again : (n : NetworkLists) → IsRegion n → FitCounts (counts_of n) → lists_in (region_bytes n) ≡ Ok n
unfolding lists_in region_bytes region_lines
lists_in_again n region counts =
    let rest = flat_map record_bytes (region_lines n) in
    let read : network_records n.days (counts_of n) rest ≡ Ok (n, []) = ap (network_records n.days (counts_of n)) (sym (append-nil rest)) ∙ records_again n [] region in
    ap (network_behind (length (region_bytes n))) (head_again n.days (counts_of n) rest region.fits.0 counts)
    ∙ ap (whole_network (length (region_bytes n))) read

-- Records are no text.
pub not_text : (n : NetworkLists) → behind_head (region_bytes n) ≡ None
unfolding region_bytes behind_head
not_text n =
    ap behind_head (append_assoc (magic_of n.days.zone) _ (flat_map record_bytes (region_lines n)))
    ∙ by_zone n.days.zone _
  where
    by_zone : (zone : Option (List ℕ)) (rest : List ℕ) → behind_head (magic_of zone ++ rest) ≡ None
    by_zone None rest = refl
    by_zone (Some rule) rest = refl
