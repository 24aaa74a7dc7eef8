-- What the tables of a feed say of each service, kept by its id.
use Rattle.std.specs.Prelude.{◌≡◌, ℕ, List, [], true, false, bytes_eq, Option, None, Some, IfSome, Vec, if◌then◌else◌}
use Rattle.std.specs.HashMap.{HashMap, get_by}
use Rattle.std.specs.Option.{option_map_or}
use Rattle.std.specs.declared.alloc.Global.{Global}
use denote.Ref.{Bor}
use Rattle.plan_base.specs.{DaySet}
use Rattle.service_days.specs.{DaysMeaning.DaysMeaning, ServiceRule}
use Rattle.gtfs_tables.specs.{FeedLists.FeedLists, ServiceRow}
use Rattle.region_build.specs.Services.{AreDaysBy, dates_of, rule_of}

-- what is kept by these bytes
abbrev pub at : {X S : Type 0} → HashMap (Bor (List ℕ)) X S → List ℕ → Option X
at kept id = get_by (λ k. bytes_eq id k.now) kept

-- the dates that are kept by them
abbrev pub listed : {S : Type 0} → HashMap (Bor (List ℕ)) (Vec ℕ Global) S → List ℕ → List ℕ
listed dates id = option_map_or (λ v. v.items) (at dates id) []

-- a rule that was found, or else that of one more service
abbrev pub rule_with : Option ServiceRule → ServiceRow → List ℕ → Option ServiceRule
rule_with (Some rule) service id = Some rule
rule_with None service id = if bytes_eq service.id id then Some service.rule else None

-- the rule of each service, and the dates that are added to it and removed from it
pub record TellServices (feed : FeedLists) (rule : List ℕ → Option ServiceRule) (added removed : List ℕ → List ℕ) : Type 0 where
  pub rules : (id : List ℕ) → rule id ≡ rule_of feed.services id
  pub adds : (id : List ℕ) → added id ≡ dates_of true id feed.dates
  pub removes : (id : List ℕ) → removed id ≡ dates_of false id feed.dates

-- what is known of the days of services is right
abbrev pub KnowDays : DaysMeaning → (List ℕ → Option ServiceRule) → (List ℕ → List ℕ) → (List ℕ → List ℕ) → (List ℕ → Option DaySet) → Type 0
KnowDays days rule added removed known = (id : List ℕ) → IfSome (known id) (AreDaysBy days (rule id) (added id) (removed id))
