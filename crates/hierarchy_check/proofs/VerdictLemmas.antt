-- A sound hierarchy has no clause that fails.
use Rattle.plan_base.proofs.Common.{◌≡◌, ℕ, inl, inr, refl, Result, Ok, Err, IfOk}
use Rattle.mode_network.specs.NetworkLists.{NetworkLists}
use Rattle.hierarchy.specs.{Verdict, Sound, Broken, HierarchyLists, IsSound, IsFirstBroken, IsSoundnessVerdict}

not_both : (n : NetworkLists) (h : HierarchyLists) (clause at by : ℕ) → IsSound n h → IsFirstBroken n h clause at by → ⊥
not_both n h clause at by sound (inl (is, none, fails)) = fails.fails (sound.in_order at fails.place)
not_both n h clause at by sound (inr (inl (is, none, order, fails))) = fails.fails (λ d. sound.in_layers at d fails.place)
not_both n h clause at by sound (inr (inr (inl (is, none, order, layers, fails)))) = fails.fails (λ d. sound.arcs_covered at d fails.place)
not_both n h clause at by sound (inr (inr (inr (inl (is, none, order, layers, covered, fails))))) = fails.fails (λ d. sound.made at d fails.place)
not_both n h clause at by sound (inr (inr (inr (inr (is, order, layers, covered, made, fails))))) = fails.node_fails.fails (λ d. sound.bridged fails.place d fails.node_fails.place)

pub sound_verdict : (n : NetworkLists) (h : HierarchyLists) (verdict : Verdict) → IsSoundnessVerdict n h verdict → IsSound n h → verdict ≡ Sound
sound_verdict n h Sound is sound = refl
sound_verdict n h (Broken clause at by) is sound = absurd (not_both n h clause at by sound is)

pub sound_checked : {E : Type 0} (n : NetworkLists) (h : HierarchyLists) (checked : Result Verdict E) → IfOk checked (IsSoundnessVerdict n h) → IsSound n h → IfOk checked (λ verdict. verdict ≡ Sound)
sound_checked n h (Ok verdict) is sound = sound_verdict n h verdict is sound
sound_checked n h (Err fault) is sound = is
