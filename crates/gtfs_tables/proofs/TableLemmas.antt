-- How rows join the earlier ones.
use Rattle.plan_base.proofs.Common.{◌≡◌, ℕ, ◌+◌, ◌<◌, ◌≤◌, List, [], ◌∷◌, ◌++◌, map, length, filter_map, refl, sym, ap, ap₂, subst, ◌∙◌, length-append, Bool, true, false, cond, ◌||◌, nat_lt, Option, None, Some, Result, Ok, Err, arith, option_or, option_map, option_to_list, IfErr, MatchResult, OnOk, list_any, cons_option, cond-true, nat_tests, map-append, filter_map-append}
use Rattle.std.proofs.lemmas.Bool.{cond-false}
use Rattle.plan_base.specs.{Kind}
use Rattle.gtfs_tables.specs.{Column, FeedFile, FeedFault, MissingFile, MissingColumn, BadField, RepeatedKey, DanglingKey, MixedZones, TooMany, OutOfMemory, ◌>>=◌, faultless, IsFaultOf, IsWantOr, Row, TableRow, IsWithinLimit, Table, limit_fault, first_dangling, has_first_zone, row_fault, judged, rows_behind, inside.Holds, inside.IsTaken, inside.IsOnTheWay}
use Rattle.gtfs_tables.proofs.ListLemmas.{list_any-map}

past_limit : (limit : Option (Kind × ℕ)) (kind : Kind) (most count : ℕ) → limit ≡ Some (kind, most) → most < count → limit_fault limit count ≡ Some (TooMany kind)
past_limit limit kind most count is more = let test : nat_lt most count ≡ true = grind (arith, nat_tests) in ap (λ limit. limit_fault limit count) is ∙ cond-true (nat_lt most count) (Some (TooMany kind)) None test

within_limit : (limit : Option (Kind × ℕ)) (count : ℕ) → IsWithinLimit limit count → limit_fault limit count ≡ None
within_limit None count few = refl
within_limit (Some limit) count few = let test : nat_lt limit.1 count ≡ false = grind (arith, nat_tests) in cond-false (nat_lt limit.1 count) (Some (TooMany limit.0)) None test

-- the same fault, for another cause
pub want_map : (fault : FeedFault) (P Q : Type 0) → (P → Q) → IsWantOr fault P → IsWantOr fault Q
want_map OutOfMemory P Q f h = tt
want_map (MissingFile file) P Q f h = f h
want_map (MissingColumn file column) P Q f h = f h
want_map (BadField file row column) P Q f h = f h
want_map (RepeatedKey file row) P Q f h = f h
want_map (DanglingKey file row column) P Q f h = f h
want_map (MixedZones row) P Q f h = f h
want_map (TooMany kind) P Q f h = f h

pub is_fault : (fault : FeedFault) (P : Type 0) → P → IsWantOr fault P
is_fault OutOfMemory P p = tt
is_fault (MissingFile file) P p = p
is_fault (MissingColumn file column) P p = p
is_fault (BadField file row column) P p = p
is_fault (RepeatedKey file row) P p = p
is_fault (DanglingKey file row column) P p = p
is_fault (MixedZones row) P p = p
is_fault (TooMany kind) P p = p

-- the faults of a row in turn
module _ {F R : Type 0} (t : Table F R) (earlier : List F) (row : TableRow) where
  module _ (f : F) (is : t.reads row ≡ Ok f) where
    is_judged : judged t earlier row ≡ faultless (row_fault t row earlier f) f
    is_judged = ap (λ r. r >>= (λ f. faultless (row_fault t row earlier f) f)) is

    by_key : (known : Bool) → list_any (t.has_key_of f) earlier ≡ known
        → judged t earlier row ≡ faultless (option_or (cond known (Some (RepeatedKey row.file row.number)) None) (option_or (option_map (DanglingKey row.file row.number) (first_dangling (t.refers f))) (option_or (cond (has_first_zone t earlier f) None (Some (MixedZones row.number)))
        (limit_fault t.limit (length (filter_map t.gives (earlier ++ f ∷ []))))))) f
    by_key known e = subst (λ known. judged t earlier row ≡ faultless (option_or (cond known (Some (RepeatedKey row.file row.number)) None) (option_or (option_map (DanglingKey row.file row.number) (first_dangling (t.refers f))) (option_or (cond (has_first_zone t earlier f) None (Some (MixedZones row.number)))
        (limit_fault t.limit (length (filter_map t.gives (earlier ++ f ∷ []))))))) f) e is_judged

    pub repeated : list_any (t.has_key_of f) earlier ≡ true → (fault : FeedFault) → fault ≡ RepeatedKey row.file row.number → IsFaultOf (judged t earlier row) fault
    repeated known fault fault_is = is_fault fault _ (by_key true known ∙ ap Err (sym fault_is))

    module _ (new : list_any (t.has_key_of f) earlier ≡ false) where
      pub dangling : (column : Column) → first_dangling (t.refers f) ≡ Some column → (fault : FeedFault) → fault ≡ DanglingKey row.file row.number column → IsFaultOf (judged t earlier row) fault
      dangling column lost fault fault_is = is_fault fault _ (by_key false new ∙ ap (λ o. faultless (option_or (option_map (DanglingKey row.file row.number) o) (option_or (cond (has_first_zone t earlier f) None (Some (MixedZones row.number)))
          (limit_fault t.limit (length (filter_map t.gives (earlier ++ f ∷ [])))))) f) lost ∙ ap Err (sym fault_is))

      module _ (known : first_dangling (t.refers f) ≡ None) where
        by_zone : (same : Bool) → has_first_zone t earlier f ≡ same → judged t earlier row ≡ faultless (option_or (cond same None (Some (MixedZones row.number)))
            (limit_fault t.limit (length (filter_map t.gives (earlier ++ f ∷ []))))) f
        by_zone same e = by_key false new ∙ rw (known, e) refl

        pub mixed : has_first_zone t earlier f ≡ false → judged t earlier row ≡ Err (MixedZones row.number)
        mixed other = by_zone false other

        module _ (same : has_first_zone t earlier f ≡ true) where
          by_limit : (fault : Option FeedFault) → limit_fault t.limit (length (filter_map t.gives (earlier ++ f ∷ []))) ≡ fault → judged t earlier row ≡ faultless fault f
          by_limit fault e = by_zone true same ∙ ap (λ fault. faultless fault f) e

          pub too_many : (kind : Kind) (most : ℕ) → t.limit ≡ Some (kind, most) → most < length (filter_map t.gives (earlier ++ f ∷ [])) → judged t earlier row ≡ Err (TooMany kind)
          too_many kind most is more = by_limit (Some (TooMany kind)) (past_limit t.limit kind most _ is more)

          pub faultless_row : IsWithinLimit t.limit (length (filter_map t.gives (earlier ++ f ∷ []))) → judged t earlier row ≡ Ok f
          faultless_row few = by_limit None (within_limit t.limit _ few)

-- a table without time zones
pub without_zones : {F R : Type 0} (t : Table F R) (earlier : List F) (f : F) → ((g : F) → t.has_zone_of f g ≡ true) → has_first_zone t earlier f ≡ true
without_zones t [] f same = refl
without_zones t (first ∷ others) f same = same first

last_given : {R : Type 0} (o : Option R) → option_to_list o ≡ cons_option o []
last_given None = refl
last_given (Some r) = refl

-- the records of the earlier rows, with those of a row more
pub one_more : {F R : Type 0} (t : Table F R) (rows : List R) (earlier : List F) → rows ≡ filter_map t.gives earlier → (f : F) (more : List R) → more ≡ rows ++ option_to_list (t.gives f) → filter_map t.gives (earlier ++ f ∷ []) ≡ more
one_more t rows earlier rows_are f more is = filter_map-append t.gives earlier (f ∷ []) ∙ ap (λ last. filter_map t.gives earlier ++ last) (sym (last_given (t.gives f))) ∙ ap (λ rows. rows ++ option_to_list (t.gives f)) (sym rows_are) ∙ sym is

-- what is kept of the earlier rows, with a row more
module _ {F R K : Type 0} (t : Table F R) (key : F → K) (keys : List K) (rows : List R) (earlier : List F) (holds : Holds t key keys rows earlier) where
  pub known_key : (eq : K → K → Bool) (k : K) → list_any (λ f. eq k (key f)) earlier ≡ list_any (eq k) keys
  known_key eq k = sym (ap (list_any (eq k)) holds.keys_are ∙ list_any-map key (eq k) earlier)

  -- a row without another fault joins the earlier ones, or there are too many with it
  pub joins : (row : TableRow) (f : F) → t.reads row ≡ Ok f → list_any (t.has_key_of f) earlier ≡ false → first_dangling (t.refers f) ≡ None → ((g : F) → t.has_zone_of f g ≡ true)
      → (last : Option R) → last ≡ t.gives f → (kind : Kind) (most : ℕ) → t.limit ≡ Some (kind, most)
      → (result : Result (Unit {0}) FeedFault) (more : List R) → OnOk result (more ≡ rows ++ option_to_list last) → OnOk result (length more ≤ most)
      → IfErr result (λ fault. IsWantOr fault ((fault ≡ TooMany kind) × (most < length (rows ++ option_to_list last))))
      → (more_keys : List K) → more_keys ≡ keys ++ key f ∷ [] → (Kept : List F → Type 0) → (more ≡ rows ++ option_to_list last → Holds t key more_keys more (earlier ++ f ∷ []) → Kept (earlier ++ f ∷ []))
      → MatchResult result (λ _. IsTaken t earlier row Kept) (IsFaultOf (judged t earlier row))
  joins row f is new known same last gave kind most limited (Ok u) more pushed few over more_keys noted Kept keeps =
      let given = one_more t rows earlier holds.rows_are f more (pushed ∙ ap (λ last. rows ++ option_to_list last) gave) in
      let within : IsWithinLimit t.limit (length more) = subst (λ limit. IsWithinLimit limit (length more)) (sym limited) few in
      record {
        said = f;
        is = faultless_row t earlier row f is new known (without_zones t earlier f same) (subst (λ rows. IsWithinLimit t.limit (length rows)) (sym given) within);
        kept = keeps pushed (record { keys_are = noted ∙ ap (λ keys. keys ++ key f ∷ []) holds.keys_are ∙ sym (map-append key earlier (f ∷ [])); rows_are = sym given; few = within });
      }
  joins row f is new known same last gave kind most limited (Err fault) more pushed few over more_keys noted Kept keeps =
      let given = one_more t rows earlier holds.rows_are f (rows ++ option_to_list last) (ap (λ last. rows ++ option_to_list last) gave) in
      want_map fault _ _ (λ (fault_is, past). too_many t earlier row f is new known (without_zones t earlier f same) kind most limited (subst (λ rows. most < length rows) (sym given) past) ∙ ap Err (sym fault_is)) over

-- row after row
module _ {F R : Type 0} (t : Table F R) (header : Row) (rows : List Row) where
  -- the row that is taken next is that behind the earlier ones
  module _ (left rest : List Row) (fields : Row) (number next : ℕ) (file : FeedFile) (Old : List F → Type 0) (way : IsOnTheWay t header rows left number Old) (is : left ≡ fields ∷ rest)
      (file_is : file ≡ t.file) (next_is : next ≡ number + 1) (row : TableRow) (row_is : row ≡ record { file = file; number = next; header = header; fields = fields }) where
    next_row : rows_behind t header [] rows ≡ judged t way.so_far row >>= (λ f. rows_behind t header (way.so_far ++ f ∷ []) rest)
    next_row =
        let numbered : length way.so_far + 2 ≡ next = let counted = way.counted in omega (arith, counted, next_is) in
        way.goes ∙ ap (rows_behind t header way.so_far) is
        ∙ ap₂ (λ (file : FeedFile) (n : ℕ). judged t way.so_far (let at : TableRow = record { file = file; number = n; header = header; fields = fields } in at) >>= (λ f. rows_behind t header (way.so_far ++ f ∷ []) rest)) (sym file_is) numbered
        ∙ ap (λ row. judged t way.so_far row >>= (λ f. rows_behind t header (way.so_far ++ f ∷ []) rest)) (sym row_is)

    pub goes_on : (New : List F → Type 0) → ((earlier : List F) → Old earlier → IsTaken t earlier row New) → IsOnTheWay t header rows rest next New
    goes_on New takes =
        let taken = takes way.so_far way.kept in
        record {
          so_far = way.so_far ++ taken.said ∷ [];
          counted = let counted = way.counted in omega (arith, counted, next_is, length-append way.so_far (taken.said ∷ []));
          goes = next_row ∙ ap (λ r. r >>= (λ f. rows_behind t header (way.so_far ++ f ∷ []) rest)) taken.is;
          kept = taken.kept;
        }

    pub halts : (fault : FeedFault) → ((earlier : List F) → Old earlier → IsFaultOf (judged t earlier row) fault) → IsFaultOf (rows_behind t header [] rows) fault
    halts fault faults = want_map fault _ _ (λ e. next_row ∙ ap (λ r. r >>= (λ f. rows_behind t header (way.so_far ++ f ∷ []) rest)) e) (faults way.so_far way.kept)

-- a key that no row has is that of no record
pub no_record : {F R K : Type 0} (gives : F → Option R) (key : F → K) (name : R → K) → ((f : F) (r : R) → gives f ≡ Some r → name r ≡ key f)
    → (p : K → Bool) (fs : List F) → list_any p (map key fs) ≡ false → list_any p (map name (filter_map gives fs)) ≡ false
no_record gives key name same p [] none = refl
no_record {F} {R} gives key name same p (f ∷ fs) none =
    let both = neither (p (key f)) (list_any p (map key fs)) none in
    by_record (gives f) (same f) both.0 (no_record gives key name same p fs both.1)
  where
    neither : (t u : Bool) → (t || u) ≡ false → (t ≡ false) × (u ≡ false)
    neither true u e = absurd cc
    neither false u e = (refl, e)

    by_record : (o : Option R) → ((r : R) → o ≡ Some r → name r ≡ key f) → p (key f) ≡ false → list_any p (map name (filter_map gives fs)) ≡ false
        → list_any p (map name (cons_option o (filter_map gives fs))) ≡ false
    by_record None same here rest = rest
    by_record (Some r) same here rest = rw (same r refl, here) rest
