-- One call more of the last trip.
use Rattle.plan_base.proofs.Common.{◌≡◌, ℕ, zero, suc, List, [], ◌∷◌, ◌++◌, length, get_or, set, refl, ap, arith}
use Rattle.timetable_arcs.specs.{Call, TripLists}
use Rattle.region_file.specs.{with_last_call}

abbrev pub with_one : TripLists → Call → TripLists
with_one trip call = record trip { calls = trip.calls ++ call ∷ [] }

pub last_set : (trips : List TripLists) (k : ℕ) (call : Call) (d new : TripLists) → suc k ≡ length trips → new ≡ with_one (get_or trips k d) call → set trips k new ≡ with_last_call trips call
last_set [] k call d new e is = absurd (omega (arith, e))
last_set (trip ∷ []) zero call d new e is = ap (λ t. t ∷ []) is
last_set (trip ∷ []) (suc k) call d new e is = absurd (omega (arith, e))
last_set (trip ∷ next ∷ more) zero call d new e is = absurd (omega (arith, e))
last_set (trip ∷ next ∷ more) (suc k) call d new e is = ap (λ x. trip ∷ x) (last_set (next ∷ more) k call d new (omega (arith, e)) is)

pub call_last : (before : List TripLists) (trip : TripLists) (call : Call) → with_last_call (before ++ trip ∷ []) call ≡ before ++ with_one trip call ∷ []
call_last [] trip call = refl
call_last (first ∷ []) trip call = refl
call_last (first ∷ next ∷ more) trip call = ap (λ x. first ∷ x) (call_last (next ∷ more) trip call)

pub length-with_last_call : (trips : List TripLists) (call : Call) → length (with_last_call trips call) ≡ length trips
length-with_last_call [] call = refl
length-with_last_call (trip ∷ []) call = refl
length-with_last_call (trip ∷ next ∷ more) call = ap suc (length-with_last_call (next ∷ more) call)
