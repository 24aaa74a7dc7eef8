-- What the trips of a feed come to, one after the other.
use Rattle.plan_base.proofs.Common.{◌≡◌, ℕ, ◌+◌, ◌*◌, List, [], ◌∷◌, ◌++◌, length, map, Option, None, Some, if◌then◌else◌, cond, refl, sym, ap, ◌∙◌, arith, sum_by, flat_map, option_or, length-map, length-flat_map, sum_by-append, sum_by-cons, sum_by_push}
use Rattle.timetable_arcs.specs.{calls_of, TripLists}
use Rattle.region_build.specs.{back_of, call_at, copies_of, copy_at, expanded, first_back, first_departure, leaves_of, AreLeft, is_idle, is_inexact, is_short, late_copies, SourceLists, IsTally, LeftOut, Tally}

-- with one trip more
module _ (sources : List SourceLists) (source : SourceLists) where
  pub left_more : (left more : LeftOut) → AreLeft sources left → more.short ≡ left.short + (if is_short source then 1 else 0) → more.idle ≡ left.idle + (if is_idle source then 1 else 0)
      → more.inexact ≡ left.inexact + (if is_inexact source then 1 else 0) → more.late ≡ left.late + late_copies source → AreLeft (sources ++ source ∷ []) more
  left_more left more are short idle inexact late = record {
    short = short ∙ ap (λ n. n + cond (is_short source) 1 0) are.short ∙ sym (sum_by_push (λ source. cond (is_short source) 1 0) sources source);
    idle = idle ∙ ap (λ n. n + cond (is_idle source) 1 0) are.idle ∙ sym (sum_by_push (λ source. cond (is_idle source) 1 0) sources source);
    inexact = inexact ∙ ap (λ n. n + cond (is_inexact source) 1 0) are.inexact ∙ sym (sum_by_push (λ source. cond (is_inexact source) 1 0) sources source);
    late = late ∙ ap (λ n. n + late_copies source) are.late ∙ sym (sum_by_push late_copies sources source);
  }

  back_more : (sources : List SourceLists) → first_back (sources ++ source ∷ []) ≡ option_or (first_back sources) (back_of (length (leaves_of source)) source)
  back_more [] = or_none (back_of (length (leaves_of source)) source)
    where
      or_none : (row : Option ℕ) → option_or row None ≡ row
      or_none None = refl
      or_none (Some row) = refl
  back_more (first ∷ rest) = ap (option_or (back_of (length (leaves_of first)) first)) (back_more rest) ∙ rejoin (back_of (length (leaves_of first)) first)
    where
      rejoin : (row : Option ℕ) → option_or row (option_or (first_back rest) (back_of (length (leaves_of source)) source)) ≡ option_or (option_or row (first_back rest)) (back_of (length (leaves_of source)) source)
      rejoin None = refl
      rejoin (Some row) = refl

  pub tally_more : (tally more : Tally) → IsTally sources tally → more.trips ≡ tally.trips + length (leaves_of source) → more.calls ≡ tally.calls + length (leaves_of source) * length source.calls
      → more.back ≡ option_or tally.back (back_of (length (leaves_of source)) source) → AreLeft (sources ++ source ∷ []) more.left_out → IsTally (sources ++ source ∷ []) more
  tally_more tally more is trips calls back left = record {
    trips = trips ∙ ap (λ n. n + length (leaves_of source)) is.trips ∙ sym (sum_by_push (λ source. length (leaves_of source)) sources source);
    calls = calls ∙ ap (λ n. n + length (leaves_of source) * length source.calls) is.calls ∙ sym (sum_by_push (λ source. length (leaves_of source) * length source.calls) sources source);
    back = back ∙ ap (λ row. option_or row (back_of (length (leaves_of source)) source)) is.back ∙ sym (back_more sources);
    left = left;
  }

-- what was counted is what there is
module _ (number : ℕ → Option ℕ) where
  calls_copied : (source : SourceLists) (leaves : List ℕ) → calls_of (map (copy_at number source) leaves) ≡ length leaves * length source.calls
  unfolding copy_at
  calls_copied source [] = omega arith
  calls_copied source (leave ∷ leaves) =
      let one = length-map source.calls (call_at number (first_departure source.calls) leave) in
      sum_by-cons (λ (trip : TripLists). length trip.calls) (copy_at number source leave) (map (copy_at number source) leaves) ∙ omega (arith, one, calls_copied source leaves)

  pub trips_counted : (sources : List SourceLists) → length (expanded number sources) ≡ sum_by (λ source. length (leaves_of source)) sources
  unfolding expanded copies_of
  trips_counted sources = length-flat_map (copies_of number) sources ∙ ap (λ (f : SourceLists → ℕ). sum_by f sources) (λ i source. length-map (leaves_of source) (copy_at number source) i)

  pub calls_counted : (sources : List SourceLists) → calls_of (expanded number sources) ≡ sum_by (λ source. length (leaves_of source) * length source.calls) sources
  unfolding expanded copies_of
  calls_counted [] = refl
  calls_counted (source ∷ sources) =
      sum_by-append (λ (trip : TripLists). length trip.calls) (map (copy_at number source) (leaves_of source)) (flat_map (copies_of number) sources)
      ∙ ap (λ n. n + calls_of (flat_map (copies_of number) sources)) (calls_copied source (leaves_of source))
      ∙ ap (λ n. length (leaves_of source) * length source.calls + n) (calls_counted sources)
      ∙ sym (sum_by-cons (λ source. length (leaves_of source) * length source.calls) source sources)
