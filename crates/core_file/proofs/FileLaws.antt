-- Files with two hierarchies are read as they are spelled, and in one way.
use Rattle.plan_base.proofs.Common.{◌≡◌, ℕ, ◌+◌, ◌<◌, ◌≤◌, ◌^◌, inl, inr, true, List, ◌++◌, ◌∙◌, length, take, drop, Option, Some, None, refl, sym, ap, subst, arith, append_assoc, bytes_eq, nat_le, leb-true, le-leb, length-take-le, length-append, take-append-drop, take_at, drop_at, cond_some, same_Some, option_and_then_some, w64, to_be_bytes, Result, Ok, Err, IfOk, IfErr}
use Rattle.file_records.specs.{number_front}
use Rattle.file_records.proofs.{Steps.and_then, NumberLaws.IsBytes, NumberLaws.Takes, NumberLaws.begins_with, NumberLaws.wide64, NumberLaws.number_takes, NumberLaws.number_again}
use Rattle.hierarchy.specs.{HierarchyLists}
use Rattle.hierarchy_file.specs.{HFileFault, BadHead, BadRecord, Trailing, OutOfMemory, magic, counts_text, hierarchy_counts, records_text, hierarchy_text, SpellHierarchy, IsRefusedHierarchy}
use Rattle.core_file.specs.{core_magic, HasParts, SpellFile, core_head, behind, HasNoParts, IsNoFile, IsRefusedFile}
use Rattle.core_file.specs.inside.Parts.{behind_core_magic, cut_at, parts_of, IsPlacedBy}
use Rattle.hierarchy_file.proofs.CauseLaws.{spell_one, no_hierarchy}

-- the place of a refusal is within the bytes
pub refused_within : (bytes : List ℕ) (fault : HFileFault) → IsRefusedHierarchy bytes fault → IsPlacedBy (length bytes) fault
refused_within bytes BadHead refused = tt
refused_within bytes (BadRecord at) refused = let place = refused.1.place in omega (arith, place)
refused_within bytes (Trailing at) refused = let place = refused.1.place in omega (arith, place)
refused_within bytes OutOfMemory refused = tt

pub placed_more : (most more : ℕ) (fault : HFileFault) → most ≤ more → IsPlacedBy most fault → IsPlacedBy more fault
placed_more most more BadHead le placed = tt
placed_more most more (BadRecord at) le placed = omega arith
placed_more most more (Trailing at) le placed = omega arith
placed_more most more OutOfMemory le placed = tt

-- ---- parts

-- the parts and what stands before them are all bytes
pub parts_long : (bytes first rest : List ℕ) → HasParts bytes first rest → core_head + length first + length rest ≡ length bytes
parts_long bytes first rest has =
    let number = to_be_bytes w64 (length first) in
    let long : length number ≡ 8 = wide64.len (length first) in
    omega (arith, ap length has.are, length-append ((core_magic ++ number) ++ first) rest, length-append (core_magic ++ number) first, length-append core_magic number, long)

core_magic_takes : (bytes rest : List ℕ) → IsBytes bytes → behind_core_magic bytes ≡ Some rest → Takes bytes core_magic rest
unfolding behind_core_magic
core_magic_takes bytes rest fits e =
    let g = cond_some (bytes_eq (take (length core_magic) bytes) core_magic) (drop (length core_magic) bytes) rest e in
    subst (Takes bytes core_magic) g.1 (begins_with core_magic bytes fits g.0)

core_magic_again : (rest : List ℕ) → behind_core_magic (core_magic ++ rest) ≡ Some rest
unfolding behind_core_magic
core_magic_again rest = refl

cut_takes : (first : ℕ × List ℕ) (x : List ℕ × List ℕ) → cut_at first ≡ Some x → (length x.0 ≡ first.0) × (first.1 ≡ x.0 ++ x.1)
cut_takes first x e =
    let g = cond_some (nat_le first.0 (length first.1)) (take first.0 first.1, drop first.0 first.1) x e in
    let cut : (length (take first.0 first.1) ≡ first.0) × (first.1 ≡ take first.0 first.1 ++ drop first.0 first.1) =
    (length-take-le first.0 first.1 (leb-true _ _ g.0), sym (take-append-drop first.0 first.1)) in
    subst (λ (y : List ℕ × List ℕ). (length y.0 ≡ first.0) × (first.1 ≡ y.0 ++ y.1)) g.1 cut

cut_again : (first rest : List ℕ) → cut_at (length first, first ++ rest) ≡ Some (first, rest)
cut_again first rest =
    let within : nat_le (length first) (length (first ++ rest)) ≡ true = le-leb _ _ (omega (arith, length-append first rest)) in
    rw (within, take_at first rest (length first) refl, drop_at first rest (length first) refl) refl

-- bytes that are read as two parts have them
pub parts_take : (bytes : List ℕ) (x : List ℕ × List ℕ) → IsBytes bytes → parts_of bytes ≡ Some x → HasParts bytes x.0 x.1
unfolding parts_of
parts_take bytes x fits e =
    option_and_then_some _ (behind_core_magic bytes) x e (λ rest is e.
    option_and_then_some _ (number_front w64 rest) x e (λ first found e.
    let m = core_magic_takes bytes rest fits is in
    let n = number_takes w64 (2 ^ 64) wide64 rest first m.rest_fits found in
    let cut = cut_takes first x e in
    let number : to_be_bytes w64 first.0 ≡ to_be_bytes w64 (length x.0) = ap (to_be_bytes w64) (sym cut.0) in
    record {
      short = subst (λ k. k < 2 ^ 64) (sym cut.0) n.1;
      are = m.parts ∙ ap (λ t. core_magic ++ t) (n.0.parts ∙ ap (λ t. to_be_bytes w64 first.0 ++ t) cut.1 ∙ ap (λ t. t ++ (x.0 ++ x.1)) number) ∙ regroup (to_be_bytes w64 (length x.0)) x.0 x.1;
    }))
  where
    regroup : (a b c : List ℕ) → core_magic ++ (a ++ (b ++ c)) ≡ ((core_magic ++ a) ++ b) ++ c
    regroup a b c = simp append_assoc

-- and bytes that have two are read so
parts_again : (bytes first rest : List ℕ) → HasParts bytes first rest → parts_of bytes ≡ Some (first, rest)
unfolding parts_of
parts_again bytes first rest has =
    let number = to_be_bytes w64 (length first) in
    ap parts_of (has.are ∙ regroup number first rest)
    ∙ and_then (behind_core_magic (core_magic ++ (number ++ (first ++ rest)))) _ (number ++ (first ++ rest)) (Some (first, rest)) (core_magic_again (number ++ (first ++ rest)))
    (and_then (number_front w64 (number ++ (first ++ rest))) _ (length first, first ++ rest) (Some (first, rest)) (number_again w64 (2 ^ 64) wide64 (length first) (first ++ rest) has.short) (cut_again first rest))
  where
    regroup : (a b c : List ℕ) → ((core_magic ++ a) ++ b) ++ c ≡ core_magic ++ (a ++ (b ++ c))
    regroup a b c = simp append_assoc

pub no_parts : (bytes : List ℕ) → parts_of bytes ≡ None → HasNoParts bytes
no_parts bytes none first rest has = clash (sym none ∙ parts_again bytes first rest has)
  where
    clash : ◌≡◌ {A = Option (List ℕ × List ℕ)} None (Some (first, rest)) → ⊥
    clash e = cc

-- no bytes have other parts
parts_one : (bytes first rest other more : List ℕ) → HasParts bytes first rest → HasParts bytes other more → (first ≡ other) × (rest ≡ more)
parts_one bytes first rest other more one two =
    let same : ◌≡◌ {A = List ℕ × List ℕ} (first, rest) (other, more) = same_Some (first, rest) (other, more) (sym (parts_again bytes first rest one) ∙ parts_again bytes other more two) in
    (ap (λ (x : List ℕ × List ℕ). x.0) same, ap (λ (x : List ℕ × List ℕ). x.1) same)

-- a hierarchy alone has no parts
alone : (rest : List ℕ) → parts_of (magic ++ rest) ≡ None
unfolding parts_of behind_core_magic
alone rest = refl

pub hierarchy_alone : (bytes : List ℕ) (h : HierarchyLists) → SpellHierarchy bytes h → HasNoParts bytes
unfolding hierarchy_text
hierarchy_alone bytes h (has, is) =
    no_parts bytes (ap parts_of (is ∙ append_assoc magic (counts_text (hierarchy_counts h)) (records_text h)) ∙ alone (counts_text (hierarchy_counts h) ++ records_text h))

-- ---- what is spelled is not refused

-- what a file spells it spells alone
pub file_one : (bytes : List ℕ) (h k : HierarchyLists) (core other : Option HierarchyLists) → SpellFile bytes h core → SpellFile bytes k other → (h ≡ k) × (core ≡ other)
file_one bytes h k None None one two = (spell_one bytes h k one two, refl)
file_one bytes h k None (Some other) one two = absurd (hierarchy_alone bytes h one two.first two.rest two.parts)
file_one bytes h k (Some core) None one two = absurd (hierarchy_alone bytes k two one.first one.rest one.parts)
file_one bytes h k (Some core) (Some other) one two =
    let same = parts_one bytes one.first one.rest two.first two.rest one.parts two.parts in
    (spell_one two.first h k (subst (λ x. SpellHierarchy x h) same.0 one.hierarchy) two.hierarchy, ap Some (spell_one two.rest core other (subst (λ x. SpellHierarchy x core) same.1 one.core) two.core))

pub no_file : (bytes : List ℕ) (h : HierarchyLists) (core : Option HierarchyLists) (fault : HFileFault) → SpellFile bytes h core → IsNoFile bytes fault → ⊥
no_file bytes h None fault is (inl (none, refused)) = no_hierarchy bytes h fault is refused
no_file bytes h None fault is (inr (inl first)) = hierarchy_alone bytes h is first.first first.rest first.parts
no_file bytes h None fault is (inr (inr core)) = hierarchy_alone bytes h is core.first core.rest core.parts
no_file bytes h (Some k) fault is (inl (none, refused)) = none is.first is.rest is.parts
no_file bytes h (Some k) fault is (inr (inl first)) =
    let same = parts_one bytes is.first is.rest first.first first.rest is.parts first.parts in
    no_hierarchy first.first h first.cause (subst (λ x. SpellHierarchy x h) same.0 is.hierarchy) first.none
no_file bytes h (Some k) fault is (inr (inr core)) =
    let same = parts_one bytes is.first is.rest core.first core.rest is.parts core.parts in
    no_hierarchy core.rest k core.cause (subst (λ x. SpellHierarchy x k) same.1 is.core) core.none

-- ---- refusals

pub alone_refused : (bytes : List ℕ) (fault : HFileFault) → HasNoParts bytes → IsRefusedHierarchy bytes fault → IsRefusedFile bytes fault
alone_refused bytes BadHead none refused = inl (none, refused)
alone_refused bytes (BadRecord at) none refused = inl (none, refused)
alone_refused bytes (Trailing at) none refused = inl (none, refused)
alone_refused bytes OutOfMemory none refused = tt

pub first_refused : (bytes first rest : List ℕ) (fault : HFileFault) → HasParts bytes first rest → IsRefusedHierarchy first fault → IsRefusedFile bytes (behind core_head fault)
first_refused bytes first rest BadHead has refused = inr (inl (record { first = first; rest = rest; parts = has; cause = BadHead; none = refused; is = refl }))
first_refused bytes first rest (BadRecord at) has refused = inr (inl (record { first = first; rest = rest; parts = has; cause = BadRecord at; none = refused; is = refl }))
first_refused bytes first rest (Trailing at) has refused = inr (inl (record { first = first; rest = rest; parts = has; cause = Trailing at; none = refused; is = refl }))
first_refused bytes first rest OutOfMemory has refused = tt

pub core_refused : (bytes first rest : List ℕ) (h : HierarchyLists) (fault : HFileFault) → HasParts bytes first rest → SpellHierarchy first h → IsRefusedHierarchy rest fault
    → IsRefusedFile bytes (behind (core_head + length first) fault)
core_refused bytes first rest h BadHead has spelled refused = inr (inr (record { first = first; rest = rest; parts = has; hierarchy = h; spelled = spelled; cause = BadHead; none = refused; is = refl }))
core_refused bytes first rest h (BadRecord at) has spelled refused = inr (inr (record { first = first; rest = rest; parts = has; hierarchy = h; spelled = spelled; cause = BadRecord at; none = refused; is = refl }))
core_refused bytes first rest h (Trailing at) has spelled refused = inr (inr (record { first = first; rest = rest; parts = has; hierarchy = h; spelled = spelled; cause = Trailing at; none = refused; is = refl }))
core_refused bytes first rest h OutOfMemory has spelled refused = tt

-- ---- what is known of each text that has parts

pub ok_of : {X A E : Type 0} (P : X → Type 0) (Q : X → A → Type 0) (x : X) → P x → (r : Result A E) → IfOk r (λ a. (y : X) → P y → Q y a) → IfOk r (Q x)
ok_of P Q x holds (Ok a) all = all x holds
ok_of P Q x holds (Err e) all = tt

pub err_of : {X A E : Type 0} (P : X → Type 0) (Q : X → E → Type 0) (x : X) → P x → (r : Result A E) → IfErr r (λ e. (y : X) → P y → Q y e) → IfErr r (Q x)
err_of P Q x holds (Ok a) all = tt
err_of P Q x holds (Err e) all = all x holds
