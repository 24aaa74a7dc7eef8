-- Delays as labels are noted, one by one.
use Rattle.plan_base.proofs.Common.{◌≡◌, ℕ, ◌+◌, ◌-◌, ◌^◌, ◌<◌, ◌≤◌, ◌⊎◌, inl, inr, List, [], ◌∷◌, ◌++◌, ◌∙◌, length, min, slice_index, refl, sym, ap, subst, arith, Contains-append_left, Contains-push, Contains-push_cases, cases_lt, cases_eq}
use Rattle.search_laws.specs.{LabelsMeaning}
use Rattle.mode_network.specs.{NetworkLists.NetworkLists}
use Rattle.product_search.specs.{declared.label.Label.Label}
use Rattle.sweeps.specs.{time_at, inside.ArePlacesOf}
use Rattle.descents.specs.inside.Delaying.{EndsAt, ReadsAgain, GoesOnAt, IsTopOf, IsFirst, AreDelays, Delays, IsMin}

-- at the places of which Q holds the delay is the least of what it was and this one; at the others it is as before
record AreNoted (Q : ℕ → Type 0) (delay : ℕ) (before after : List ℕ) : Type 0 where
  as_many : length after ≡ length before
  each : (k : ℕ) → k < length before → (Q k × (time_at after k ≡ min (time_at before k) delay)) ⊎ ((Q k → ⊥) × (time_at after k ≡ time_at before k))

noted_at : (Q : ℕ → Type 0) (place delay : ℕ) (before after : List ℕ) → IsMin place delay before after → Q place → ((k : ℕ) → k < length before → Q k → k ≡ place) → AreNoted Q delay before after
noted_at Q place delay before after least here only = record {
  as_many = least.as_many;
  each = λ k lt. elim (cases_eq k place) [
    | inl same ↦ inl (subst Q (sym same) here, subst (λ j. time_at after j ≡ min (time_at before j) delay) (sym same) least.here)
    | inr other ↦ inr (λ holds. other (only k lt holds), least.elsewhere k other)
  ];
}

noted_nowhere : (Q : ℕ → Type 0) (delay : ℕ) (before after : List ℕ) → after ≡ before → ((k : ℕ) → k < length before → Q k → ⊥) → AreNoted Q delay before after
noted_nowhere Q delay before after same none = record { as_many = ap length same; each = λ k lt. inr (none k lt, ap (λ times. time_at times k) same) }

-- the first of labels of which P holds, with one label more
module _ (P : Label → Type 0) (dep : ℕ) (labels : List Label) (x : Label) (d : ℕ) (first : IsFirst P dep labels d) where
  first_passes : (P x → ⊥) → IsFirst P dep (labels ++ x ∷ []) d
  first_passes fails = record {
    none_earlier = λ y there holds. elim (Contains-push_cases labels x y there) [
      | inl before ↦ first.none_earlier y before holds
      | inr same ↦ absurd (fails (subst P (sym same) holds))
    ];
    is = λ less. (let y = first.is less in (y.0, Contains-append_left labels (x ∷ []) y.0 y.1, y.2, y.3));
  }

  first_meets : (delay : ℕ) → x.at ≡ dep + delay → P x → IsFirst P dep (labels ++ x ∷ []) (min d delay)
  first_meets delay at holds = record {
    none_earlier = λ y there of. elim (Contains-push_cases labels x y there) [
      | inl before ↦ (let sooner = first.none_earlier y before of in omega arith)
      | inr same ↦ subst (λ (z : Label). dep + min d delay ≤ z.at) same (omega arith)
    ];
    is = λ less. elim (cases_lt delay d) [
      | inl sooner ↦ (x, Contains-push labels x, holds, omega arith)
      | inr later ↦ (let y = first.is (omega arith) in (y.0, Contains-append_left labels (x ∷ []) y.0 y.1, y.2, omega (arith, y.3)))
    ];
  }

  first_more : (delay e : ℕ) → x.at ≡ dep + delay → (P x × (e ≡ min d delay)) ⊎ ((P x → ⊥) × (e ≡ d)) → IsFirst P dep (labels ++ x ∷ []) e
  first_more delay e at (inl (holds, is)) = subst (IsFirst P dep (labels ++ x ∷ [])) (sym is) (first_meets delay at holds)
  first_more delay e at (inr (fails, is)) = subst (IsFirst P dep (labels ++ x ∷ [])) (sym is) (first_passes fails)

module _ (n : NetworkLists) (slope : List ℕ) (l : LabelsMeaning) (dep : ℕ) (labels : List Label) (x : Label) (delay : ℕ) (at : x.at ≡ dep + delay) (fits : delay + 1 < 2 ^ 32) (d : Delays) (are : AreDelays n slope l dep labels d) where
  delays_more : (e : Delays) → AreNoted (λ v. EndsAt l v x) delay d.ends.items e.ends.items → AreNoted (λ i. GoesOnAt n l (slice_index slope i) x) delay d.tops.items e.tops.items → AreDelays n slope l dep (labels ++ x ∷ []) e
  delays_more e ends tops = record {
    ends_each = ends.as_many ∙ are.ends_each;
    tops_each = tops.as_many ∙ are.tops_each;
    small = λ y there. elim (Contains-push_cases labels x y there) [ inl before ↦ are.small y before | inr same ↦ subst (λ (z : Label). z.at < dep + (2 ^ 32 - 1)) same (omega arith) ];
    ends = λ v lt. first_more (EndsAt l v) dep labels x (time_at d.ends.items v) (are.ends v lt) delay (time_at e.ends.items v) at (ends.each v (omega (arith, are.ends_each)));
    tops = λ i lt. first_more (GoesOnAt n l (slice_index slope i)) dep labels x (time_at d.tops.items i) (are.tops i lt) delay (time_at e.tops.items i) at (tops.each i (omega (arith, are.tops_each)));
  }

  -- a label that is no end changes nothing
  pub ends_nowhere : ((v : ℕ) → EndsAt l v x → ⊥) → AreDelays n slope l dep (labels ++ x ∷ []) d
  ends_nowhere none = delays_more d
      (noted_nowhere (λ v. EndsAt l v x) delay d.ends.items d.ends.items refl (λ v lt. none v))
      (noted_nowhere (λ i. GoesOnAt n l (slice_index slope i) x) delay d.tops.items d.tops.items refl (λ i lt on. none (slice_index slope i) on.0))

  module _ (v : ℕ) (end : EndsAt l v x) (e : Delays) (ends : IsMin v delay d.ends.items e.ends.items) where
    only_node : (u : ℕ) → EndsAt l u x → u ≡ v
    only_node u is = omega (arith, is.0, end.0)

    noted_end : AreNoted (λ u. EndsAt l u x) delay d.ends.items e.ends.items
    noted_end = noted_at (λ u. EndsAt l u x) v delay d.ends.items e.ends.items ends end (λ u lt. only_node u)

    top_of : (i : ℕ) → i < length d.tops.items → GoesOnAt n l (slice_index slope i) x → IsTopOf n slope l v x.state i
    top_of i lt on =
        let same = only_node (slice_index slope i) on.0 in
        record { within = omega (arith, are.tops_each); is = same; again = subst (λ u. ReadsAgain n l u x.state) same on.1 }

    -- one that is an end, and does not go on
    pub ends_there : ((i : ℕ) → IsTopOf n slope l v x.state i → ⊥) → e.tops.items ≡ d.tops.items → AreDelays n slope l dep (labels ++ x ∷ []) e
    ends_there none same = delays_more e noted_end (noted_nowhere (λ i. GoesOnAt n l (slice_index slope i) x) delay d.tops.items e.tops.items same (λ i lt on. none i (top_of i lt on)))

    -- and one that does, where a table has the places of nodes
    pub goes_on : (table : List ℕ) → ArePlacesOf slope (length slope) table → (place : ℕ) → IsTopOf n slope l v x.state place → IsMin place delay d.tops.items e.tops.items → AreDelays n slope l dep (labels ++ x ∷ []) e
    goes_on table placed place top tops = delays_more e noted_end
        (noted_at (λ i. GoesOnAt n l (slice_index slope i) x) place delay d.tops.items e.tops.items tops (subst (λ u. GoesOnAt n l u x) (sym top.is) (end, top.again)) (λ i lt on. only i (top_of i lt on)))
      where
        only : (i : ℕ) → IsTopOf n slope l v x.state i → i ≡ place
        only i other = sym (placed i other.within).1 ∙ ap (slice_index table) (other.is ∙ sym top.is) ∙ (placed place top.within).1
