-- What is said of services, row by row.
use Rattle.plan_base.proofs.Common.{◌≡◌, ℕ, ◌+◌, ◌<◌, List, [], ◌∷◌, ◌++◌, length, get_or, take, map, Bool, true, false, Option, None, Some, cond, if◌then◌else◌, refl, sym, ap, subst, ◌∙◌, IfSome, Vec, bytes_eq, filter, is_none, unwrap_or, option_map_or, Global, update, false≢true, nat_list_eq_equiv, append-nil, map-append, take_more, filter-append, none-some, bytes_eq-Decides}
use Rattle.std.proofs.Common.{option_copied}
use denote.Ref.{Bor}
use Rattle.service_days.specs.{DaysMeaning.DaysMeaning, ServiceRule}
use Rattle.plan_base.specs.{DaySet}
use Rattle.gtfs_tables.specs.{FeedLists.FeedLists, DateRow, ServiceRow}
use Rattle.region_build.specs.{inside.KnowDays, inside.TellServices, inside.rule_with, AreDaysBy, AreDaysOf, dates_of, is_change, rule_of}

-- one service more
pub rule_of-push : (services : List ServiceRow) (service : ServiceRow) (id : List ℕ) → rule_of (services ++ service ∷ []) id ≡ rule_with (rule_of services id) service id
rule_of-push [] service id = refl
rule_of-push (first ∷ services) service id = by_test (bytes_eq first.id id) (rule_of-push services service id)
  where
    by_test : (same : Bool) → rule_of (services ++ service ∷ []) id ≡ rule_with (rule_of services id) service id
        → (if same then Some first.rule else rule_of (services ++ service ∷ []) id) ≡ rule_with (if same then Some first.rule else rule_of services id) service id
    by_test true e = refl
    by_test false e = e

-- its rule is kept where none has been
module _ (kept : List ℕ → Option ServiceRule) (service : ServiceRow) where
  comes : kept service.id ≡ None → (id : List ℕ) → update bytes_eq kept service.id (Some service.rule) id ≡ rule_with (kept id) service id
  comes none id = by_test (bytes_eq service.id id) refl (kept id) refl
    where
      by_test : (same : Bool) → bytes_eq service.id id ≡ same → (rule : Option ServiceRule) → kept id ≡ rule → cond same (Some service.rule) rule ≡ rule_with rule service id
      by_test true e (Some rule) is =
          let one : service.id ≡ id = (bytes_eq-Decides service.id id).0 e in
          absurd (none-some rule (sym none ∙ ap kept one ∙ is))
      by_test true e None is = rw e refl
      by_test false e (Some rule) is = refl
      by_test false e None is = rw e refl

  pub rule_comes : (bytes : List ℕ) → bytes ≡ service.id → kept bytes ≡ None → (id : List ℕ) → update bytes_eq kept bytes (Some service.rule) id ≡ rule_with (kept id) service id
  rule_comes bytes same none id =
      ap (λ bytes. update bytes_eq kept bytes (Some service.rule) id) same ∙ comes (ap kept (sym same) ∙ none) id

-- what is known of the days of one service more
pub known_more : (days : DaysMeaning) (rule : List ℕ → Option ServiceRule) (added removed : List ℕ → List ℕ) (old new : List ℕ → Option DaySet) (id : List ℕ) (set : DaySet)
    → KnowDays days rule added removed old → AreDaysBy days (rule id) (added id) (removed id) set → ((other : List ℕ) → new other ≡ update bytes_eq old id (Some set) other)
    → KnowDays days rule added removed new
known_more days rule added removed old new id set know runs put other =
    subst (λ known. IfSome known (AreDaysBy days (rule other) (added other) (removed other))) (sym (put other)) (by_test (bytes_eq id other) refl)
  where
    by_test : (same : Bool) → bytes_eq id other ≡ same → IfSome (cond same (Some set) (old other)) (AreDaysBy days (rule other) (added other) (removed other))
    by_test true e = subst (λ one. AreDaysBy days (rule one) (added one) (removed one) set) ((bytes_eq-Decides id other).0 e) runs
    by_test false e = know other

-- one row more
pub dates_of-push : (added : Bool) (id : List ℕ) (rows : List DateRow) (row : DateRow)
    → dates_of added id (rows ++ row ∷ []) ≡ dates_of added id rows ++ (if is_change added row then (if bytes_eq id row.id then row.date ∷ [] else []) else [])
unfolding dates_of
dates_of-push added id rows row =
    ap (λ rows. map (λ (row : DateRow). row.date) (filter (λ (row : DateRow). bytes_eq id row.id) rows)) (filter-append (is_change added) rows (row ∷ []))
    ∙ ap (map (λ (row : DateRow). row.date)) (filter-append (λ (row : DateRow). bytes_eq id row.id) (filter (is_change added) rows) (filter (is_change added) (row ∷ [])))
    ∙ map-append (λ (row : DateRow). row.date) (filter (λ (row : DateRow). bytes_eq id row.id) (filter (is_change added) rows)) (filter (λ (row : DateRow). bytes_eq id row.id) (filter (is_change added) (row ∷ [])))
    ∙ ap (λ back. map (λ (row : DateRow). row.date) (filter (λ (row : DateRow). bytes_eq id row.id) (filter (is_change added) rows)) ++ back) (last (is_change added row) (bytes_eq id row.id))
  where
    last : (wanted same : Bool) → map (λ (row : DateRow). row.date) (filter (λ (other : DateRow). bytes_eq id other.id) (if wanted then row ∷ [] else [])) ≡ (if wanted then (if bytes_eq id row.id then row.date ∷ [] else []) else [])
    last true same = by_test (bytes_eq id row.id)
      where
        by_test : (same : Bool) → map (λ (row : DateRow). row.date) (if same then row ∷ [] else []) ≡ (if same then row.date ∷ [] else [])
        by_test true = refl
        by_test false = refl
    last false same = refl

-- the days of a service, where its rule and its dates are told
pub days_are : (feed : FeedLists) (days : DaysMeaning) (rule : List ℕ → Option ServiceRule) (added removed : List ℕ → List ℕ) (id : List ℕ) (set : DaySet)
    → TellServices feed rule added removed → AreDaysBy days (rule id) (added id) (removed id) set → AreDaysOf feed days id set
days_are feed days rule added removed id set told by = record {
  runs = subst (λ rule. AreDaysBy days rule (dates_of true id feed.dates) (dates_of false id feed.dates) set) (told.rules id)
      (subst (λ added. AreDaysBy days (rule id) added (dates_of false id feed.dates) set) (told.adds id)
      (subst (λ removed. AreDaysBy days (rule id) (added id) removed set) (told.removes id) by));
}

-- ---- dates

copied_none : {X : Type 0} (r : Option (Bor X)) → is_none r ≡ true → option_copied r ≡ None
copied_none None e = refl
copied_none (Some x) e = absurd (false≢true e)

-- what a look-up that finds nothing says
pub nothing_kept : {X : Type 0} (r : Option (Bor X)) (found : Option X) → option_copied r ≡ found → is_none r ≡ true → found ≡ None
nothing_kept r found e none = sym e ∙ copied_none r none

abbrev pub items_of : Option (Vec ℕ Global) → List ℕ
items_of dates = option_map_or (λ v. v.items) dates []

-- what was taken out, or else an empty list
pub items_taken : (taken : Option (Vec ℕ Global)) (new : Vec ℕ Global) → new.items ≡ [] → (unwrap_or taken new).items ≡ items_of taken
items_taken None new none = none
items_taken (Some v) new none = refl

-- a list that was taken out is put back with one date more
pub date_put : (old mid new : List ℕ → Option (Vec ℕ Global)) (bytes : List ℕ) (date : ℕ) (own : Vec ℕ Global)
    → ((q : List ℕ) → mid q ≡ update bytes_eq old bytes None q) → ((q : List ℕ) → new q ≡ update bytes_eq mid bytes (Some own) q) → own.items ≡ items_of (old bytes) ++ date ∷ []
    → (row_id : List ℕ) → bytes ≡ row_id → (id : List ℕ) → items_of (new id) ≡ items_of (old id) ++ (if bytes_eq id row_id then date ∷ [] else [])
date_put old mid new bytes date own taken put more row_id same id =
    ap items_of (put id) ∙ by_test (bytes_eq bytes id) refl ∙ ap (λ other. items_of (old id) ++ (if bytes_eq id other then date ∷ [] else [])) same
  where
    by_test : (here : Bool) → bytes_eq bytes id ≡ here → items_of (cond here (Some own) (mid id)) ≡ items_of (old id) ++ (if bytes_eq id bytes then date ∷ [] else [])
    by_test true e =
        let one : bytes ≡ id = (bytes_eq-Decides bytes id).0 e in
        let back : bytes_eq id bytes ≡ true = nat_list_eq_equiv.symm id bytes ∙ e in
        rw back (more ∙ ap (λ q. items_of (old q) ++ date ∷ []) one)
    by_test false e =
        let back : bytes_eq id bytes ≡ false = nat_list_eq_equiv.symm id bytes ∙ e in
        rw back (ap items_of (taken id ∙ ap (λ here. cond here None (old id)) e) ∙ sym (append-nil (items_of (old id))))

-- the rows so far, with one more
module _ (added : Bool) (id : List ℕ) (rows : List DateRow) (i : ℕ) (row : DateRow) (there : i < length rows) (is : row ≡ get_or rows i row) where
  one_row : dates_of added id (take (i + 1) rows) ≡ dates_of added id (take i rows) ++ (if is_change added row then (if bytes_eq id row.id then row.date ∷ [] else []) else [])
  one_row = ap (dates_of added id) (take_more rows i row there) ∙ ap (λ row. dates_of added id (take i rows ++ row ∷ [])) (sym is) ∙ dates_of-push added id (take i rows) row

  pub dates_more : is_change added row ≡ true → dates_of added id (take (i + 1) rows) ≡ dates_of added id (take i rows) ++ (if bytes_eq id row.id then row.date ∷ [] else [])
  dates_more wanted = one_row ∙ ap (λ here. dates_of added id (take i rows) ++ (if here then (if bytes_eq id row.id then row.date ∷ [] else []) else [])) wanted

  pub dates_same : is_change added row ≡ false → dates_of added id (take (i + 1) rows) ≡ dates_of added id (take i rows)
  dates_same other =
      one_row ∙ ap (λ here. dates_of added id (take i rows) ++ (if here then (if bytes_eq id row.id then row.date ∷ [] else []) else [])) other ∙ append-nil (dates_of added id (take i rows))
