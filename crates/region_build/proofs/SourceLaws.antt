-- What the tables say of one trip after another.
use Rattle.plan_base.proofs.Common.{◌≡◌, ℕ, ◌+◌, ◌-◌, ◌<◌, ◌≤◌, List, [], ◌∷◌, ◌++◌, length, map, take, drop, get_or, refl, subst, sym, ap, arith, ◌∙◌, append_assoc, filter, append-nil, map-append, take_all}
use Rattle.service_days.specs.DaysMeaning.{DaysMeaning}
use Rattle.gtfs_tables.specs.{FeedLists.FeedLists, CallRow, FrequencyRow, TripRow}
use Rattle.region_build.specs.{is_of, trip_of_call, trip_of_frequency, Source, AreSourcesFrom, IsSource, SourceLists, lists_of}

-- the first element and those behind it
pub first_and_rest : {X : Type 0} (xs : List X) (d : X) → 1 ≤ length xs → xs ≡ get_or xs 0 d ∷ take (length xs - 1) (drop 1 xs)
first_and_rest [] d some = absurd (omega arith)
first_and_rest (x ∷ xs) d some =
    let count : length (x ∷ xs) - 1 ≡ length xs = omega arith in
    let all : take (length xs) xs ≡ xs = take_all (length xs) xs (omega arith) in
    rw (count, all) refl

module _ (feed : FeedLists) (days : DaysMeaning) (calls : List CallRow) (frequencies : List FrequencyRow) (all : List TripRow) where
  -- the trips before this place have their sources
  abbrev pub SoFar : ℕ → List TripRow → List Source → Type 0
  SoFar k rest sources = (later : List SourceLists) → AreSourcesFrom feed days calls frequencies k rest later → AreSourcesFrom feed days calls frequencies 0 all (map lists_of sources ++ later)

  pub one_more : (k : ℕ) (rest after : List TripRow) (trip : TripRow) (sources more : List Source) (source : Source) (own : List CallRow) (headways : List FrequencyRow)
      → rest ≡ trip ∷ after → more ≡ sources ++ source ∷ [] → own ≡ filter (is_of trip_of_call k) calls → headways ≡ filter (is_of trip_of_frequency k) frequencies
      → IsSource feed days own headways trip (lists_of source) → SoFar k rest sources → SoFar (k + 1) after more
  one_more k rest after trip sources more source own headways split pushed own_are headways_are is so_far = λ later h.
      let first = subst (λ own. IsSource feed days own (filter (is_of trip_of_frequency k) frequencies) trip (lists_of source)) own_are (subst (λ headways. IsSource feed days own headways trip (lists_of source)) headways_are is) in
      let whole = so_far (lists_of source ∷ later) (subst (λ trips. AreSourcesFrom feed days calls frequencies k trips (lists_of source ∷ later)) (sym split) (first, h)) in
      let same : map lists_of sources ++ (lists_of source ∷ later) ≡ map lists_of more ++ later =
      sym (ap (λ more. map lists_of more ++ later) pushed ∙ ap (λ xs. xs ++ later) (map-append lists_of sources (source ∷ [])) ∙ append_assoc (map lists_of sources) (lists_of source ∷ []) later) in
      subst (λ sources. AreSourcesFrom feed days calls frequencies 0 all sources) same whole

  pub all_told : (k : ℕ) (rest : List TripRow) (sources : List Source) → length rest < 1 → SoFar k rest sources → AreSourcesFrom feed days calls frequencies 0 all (map lists_of sources)
  all_told k [] sources none so_far = subst (λ sources. AreSourcesFrom feed days calls frequencies 0 all sources) (append-nil (map lists_of sources)) (so_far [] tt)
  all_told k (trip ∷ rest) sources none so_far = absurd (omega arith)
