-- What is known after a walk was taken.
use Rattle.plan_base.proofs.Common.{◌≡◌, ◌≢◌, ℕ, ◌+◌, ◌<◌, ◌≤◌, ◌⊎◌, inl, inr, List, ◌∙◌, length, set, get_or, Some, true, false, refl, sym, ap, subst, arith, nat_eq, cond, Bool, slice_get, sum_by, cases_eq, cases_lt, eq-eqb, eqb-true, same_Some, slice_get-get_or, sum_by-set}
use Rattle.witness.specs.{declared.place.Place.Place, inside.Known, inside.IsKnownWithin, inside.left_of}
use Rattle.witness.proofs.ListLemmas.{slice_get-set_same, slice_get-set_other}

abbrev place_of : ℕ → ℕ → ℕ → Place
place_of at parent round = record { at = at; parent = parent; round = round }

-- one thing is known of a node
pub known_once : (places : List Place) (round v at parent : ℕ) (a : ℕ) (p : ℕ) → Known places round v at parent → Known places round v a p → (at ≡ a) × (parent ≡ p)
known_once places round v at parent a p one two =
    let same = same_Some (place_of at parent round) (place_of a p round) (sym one ∙ two) in
    (ap (λ (x : Place). x.at) same, ap (λ (x : Place). x.parent) same)

module _ (old new : List Place) (round to at parent : ℕ) (there : to < length old) (is : new ≡ set old to (record { at = at; parent = parent; round = round })) where
  pub known_here : Known new round to at parent
  known_here = ap (λ ps. slice_get ps to) is ∙ slice_get-set_same old to (place_of at parent round) there

  pub known_kept : (v d p : ℕ) → v ≢ to → Known old round v d p → Known new round v d p
  known_kept v d p differ was = ap (λ ps. slice_get ps v) is ∙ slice_get-set_other old to v (place_of at parent round) differ ∙ was

  pub known_was : (v d p : ℕ) → Known new round v d p → ((v ≢ to) × Known old round v d p) ⊎ ((v ≡ to) × (d ≡ at) × (p ≡ parent))
  known_was v d p now = elim (cases_eq v to) [
    | inl same ↦ (let once = known_once new round v d p at parent now (subst (λ x. Known new round x at parent) (sym same) known_here) in inr (same, once.0, once.1))
    | inr differ ↦ inl (differ, sym (slice_get-set_other old to v (place_of at parent round) differ) ∙ ap (λ ps. slice_get ps v) (sym is) ∙ now)
  ]

  module _ (heavier : IsKnownWithin old round to at → ⊥) where
    pub lower : (v limit : ℕ) → IsKnownWithin old round v limit → IsKnownWithin new round v limit
    lower v limit r = elim (cases_eq v to) [
      | inr differ ↦ record { at = r.at; parent = r.parent; known = known_kept v r.at r.parent differ r.known; within = r.within }
      | inl same ↦ elim (cases_lt at r.at) [
        | inl less ↦ record { at = at; parent = parent; known = subst (λ x. Known new round x at parent) (sym same) known_here; within = (let le = r.within in omega arith) }
        | inr more ↦ absurd (heavier (record { at = r.at; parent = r.parent; known = subst (λ x. Known old round x r.at r.parent) same r.known; within = more }))
      ]
    ]

    -- the sum of what places count for falls
    pub less_left : (limit : ℕ) → at ≤ limit → sum_by (left_of round limit) new + 1 ≤ sum_by (left_of round limit) old
    less_left limit le =
        let d = place_of at parent round in
        let now : left_of round limit d ≡ at = rw (eq-eqb round round refl) refl in
        let sum = sum_by-set (left_of round limit) old to d d there in
        let at_new : sum_by (left_of round limit) new ≡ sum_by (left_of round limit) (set old to d) = ap (sum_by (left_of round limit)) is in
        let more = was_more limit le (get_or old to d) (slice_get-get_or old to d there) in
        omega (arith, at_new, sum, now, more)
      where
        was_more : (limit : ℕ) → at ≤ limit → (place : Place) → slice_get old to ≡ Some place → at + 1 ≤ left_of round limit place
        was_more limit le place stands = by_round (nat_eq place.round round) refl where
          by_round : (b : Bool) → nat_eq place.round round ≡ b → at + 1 ≤ cond b place.at (limit + 1)
          by_round false e = omega arith
          by_round true e = elim (cases_lt at place.at) [
            | inl less ↦ omega arith
            | inr more ↦ absurd (heavier (record { at = place.at; parent = place.parent; known = stands ∙ ap (λ r. Some (place_of place.at place.parent r)) (eqb-true place.round round e); within = more }))
          ]
