-- A query line asks one thing or is refused with one fault: part by part, each part says one thing.
use Rattle.plan_base.proofs.Common.{◌≡◌, ℕ, ℤ, ◌≤◌, ◌⊎◌, inl, inr, List, [], true, false, Option, Some, None, Result, Ok, Err, refl, sym, ap, ap₂, subst, ◌∙◌, arith, length, All-contains}
use Rattle.mode_expression.specs.{ExprFault, TooLong as LongExpression, TooDeep as DeepExpression, Syntax as BadSyntax, TooLarge as LargeExpression, IsParse, Form.Form}
use Rattle.mode_expression.proofs.UniqueLemmas.{same_outcome}
use Rattle.geo_length.specs.{Point, IsClosest, length_to}
use Rattle.mode_network.specs.{Node, Endpoint, Near, NearIn, layer_nodes, layer_points, road_points, declared.endpoints.Endpoint.TheVariants.Road, declared.endpoints.Endpoint.TheVariants.Stop, NetworkLists.NetworkLists}
use Rattle.plan_base.specs.{Place}
use Rattle.journey.specs.{QueryFault, BadClock, OutOfRange, UnknownFrom, UnknownTo, TooLong, TooDeep, Syntax, TooLarge, OffNetwork, OutOfMemory, Lack, Unknown, Far, origin_fault, destination_fault, fault_of, Shape, shape_of, departs_at, IsKnown, IsUnknown, IsFar, IsLack, Departs, ReachesExpression, Asked, IsReading, ReadingIsUnique, declared.fault.QueryFault.TheVariants.Shape as NoShape}

-- ---- what an endpoint lacks

-- the nearest of some points is at one length
same_length : (points : List Point) (place : Place) (i j : ℤ) (m k : ℕ) → IsClosest points place i m → IsClosest points place j k → m ≡ k
same_length points place i j m k a b =
    let a_first : m ≤ length_to place (j, b.at) = All-contains (λ point. m ≤ length_to place point) points (j, b.at) a.closest b.given in
    let b_first : k ≤ length_to place (i, a.at) = All-contains (λ point. k ≤ length_to place point) points (i, a.at) b.closest a.given in
    let a_is = a.length_is in
    let b_is = b.length_is in
    omega arith

-- where there is a nearest point there are points
some_roads : (roads : List Node) (place : Place) (id : ℤ) (mm : ℕ) → IsClosest (road_points roads) place id mm → roads ≡ [] → ⊥
some_roads roads place id mm closest none =
    let (k, within, _) = closest.given in
    let empty : length (road_points roads) ≡ 0 = ap (λ (nodes : List Node). length (road_points nodes)) none in
    omega (arith, within, empty)

known_not_unknown : (n : NetworkLists) (e : Endpoint) → IsKnown n e → IsUnknown n e → ⊥
known_not_unknown n (Road id) (v, copy) none = none v copy
known_not_unknown n (Stop name) (v, copy) none = none v copy
known_not_unknown n (Near place) (v, copy) none = some_roads n.roads place copy.id copy.mm copy.nearest none
known_not_unknown n (NearIn mode place) (v, copy) none = some_roads (layer_nodes n.roads mode) place copy.id copy.mm copy.nearest none

known_not_far : (n : NetworkLists) (e : Endpoint) (mm : ℕ) → IsKnown n e → IsFar n e mm → ⊥
known_not_far n (Road id) mm known far = far
known_not_far n (Stop name) mm known far = far
known_not_far n (Near place) mm (v, copy) (id, nearest, past) =
    let same = same_length (road_points n.roads) place copy.id id copy.mm mm copy.nearest nearest in
    let within = copy.within in
    omega arith
known_not_far n (NearIn mode place) mm (v, copy) (id, nearest, past) =
    let same = same_length (layer_points n.roads mode) place copy.id id copy.mm mm copy.nearest nearest in
    let within = copy.within in
    omega arith

unknown_not_far : (n : NetworkLists) (e : Endpoint) (mm : ℕ) → IsUnknown n e → IsFar n e mm → ⊥
unknown_not_far n (Road id) mm none far = far
unknown_not_far n (Stop name) mm none far = far
unknown_not_far n (Near place) mm none (id, nearest, past) = some_roads n.roads place id mm nearest none
unknown_not_far n (NearIn mode place) mm none (id, nearest, past) = some_roads (layer_nodes n.roads mode) place id mm nearest none

same_far : (n : NetworkLists) (e : Endpoint) (m k : ℕ) → IsFar n e m → IsFar n e k → m ≡ k
same_far n (Road id) m k a b = absurd a
same_far n (Stop name) m k a b = absurd a
same_far n (Near place) m k (i, one, _) (j, other, _) = same_length (road_points n.roads) place i j m k one other
same_far n (NearIn mode place) m k (i, one, _) (j, other, _) = same_length (layer_points n.roads mode) place i j m k one other

same_lack : (n : NetworkLists) (e : Endpoint) (a b : Option Lack) → IsLack n e a → IsLack n e b → a ≡ b
same_lack n e None None p q = refl
same_lack n e None (Some Unknown) p q = absurd (known_not_unknown n e p q)
same_lack n e None (Some (Far mm)) p q = absurd (known_not_far n e mm p q)
same_lack n e (Some Unknown) None p q = absurd (known_not_unknown n e q p)
same_lack n e (Some (Far mm)) None p q = absurd (known_not_far n e mm q p)
same_lack n e (Some Unknown) (Some Unknown) p q = refl
same_lack n e (Some Unknown) (Some (Far mm)) p q = absurd (unknown_not_far n e mm p q)
same_lack n e (Some (Far mm)) (Some Unknown) p q = absurd (unknown_not_far n e mm q p)
same_lack n e (Some (Far m)) (Some (Far k)) p q = ap (λ mm. Some (Far mm)) (same_far n e m k p q)

-- ---- part by part

-- the outcome of the expression as that of the line
abbrev of_expression : Shape → ℕ → Result Form ExprFault → Result Asked QueryFault
of_expression s depart (Ok form) = Ok (record { from = s.from; to = s.to; depart = depart; form = form })
of_expression s depart (Err fault) = Err (fault_of fault)

module _ (n : NetworkLists) (line : List ℕ) where
  abbrev ByExpression : Shape → ℕ → Result Asked QueryFault → Type 0
  ByExpression s depart r = (o : Result Form ExprFault) × IsParse s.expr o × (r ≡ of_expression s depart o)

  -- from a part on, where the earlier ones are right: this part fails, or it is right and a later one decides
  abbrev FromDestination : Shape → ℕ → Result Asked QueryFault → Type 0
  FromDestination s depart r = ((lack : Lack) × IsLack n s.to (Some lack) × (r ≡ Err (destination_fault lack))) ⊎ (IsKnown n s.to × ByExpression s depart r)

  abbrev FromOrigin : Shape → ℕ → Result Asked QueryFault → Type 0
  FromOrigin s depart r = ((lack : Lack) × IsLack n s.from (Some lack) × (r ≡ Err (origin_fault lack))) ⊎ (IsKnown n s.from × FromDestination s depart r)

  abbrev FromClock : Shape → Result Asked QueryFault → Type 0
  FromClock s r = ((fault : QueryFault) × (departs_at n.days s ≡ Err fault) × (r ≡ Err fault)) ⊎ ((depart : ℕ) × (departs_at n.days s ≡ Ok depart) × FromOrigin s depart r)

  abbrev FromShape : Result Asked QueryFault → Type 0
  FromShape r = ((shape_of line ≡ None) × (r ≡ Err NoShape)) ⊎ ((s : Shape) × (shape_of line ≡ Some s) × FromClock s r)

  by_expression : (s : Shape) (depart : ℕ) (one other : Result Asked QueryFault) → ByExpression s depart one → ByExpression s depart other → one ≡ other
  by_expression s depart one other (o, p, e) (u, q, f) = e ∙ (ap (of_expression s depart) (same_outcome s.expr o u p q) ∙ sym f)

  from_destination : (s : Shape) (depart : ℕ) (one other : Result Asked QueryFault) → FromDestination s depart one → FromDestination s depart other → one ≡ other
  from_destination s depart one other (inl (a, p, e)) (inl (b, q, f)) =
      let same : Some a ≡ Some b = same_lack n s.to (Some a) (Some b) p q in
      let lacks : a ≡ b = cc in
      e ∙ (ap (λ (lack : Lack). Err (destination_fault lack)) lacks ∙ sym f)
  from_destination s depart one other (inl (a, p, e)) (inr (known, q)) = let same = same_lack n s.to (Some a) None p known in cc
  from_destination s depart one other (inr (known, p)) (inl (b, q, f)) = let same = same_lack n s.to (Some b) None q known in cc
  from_destination s depart one other (inr (_, p)) (inr (_, q)) = by_expression s depart one other p q

  from_origin : (s : Shape) (depart : ℕ) (one other : Result Asked QueryFault) → FromOrigin s depart one → FromOrigin s depart other → one ≡ other
  from_origin s depart one other (inl (a, p, e)) (inl (b, q, f)) =
      let same : Some a ≡ Some b = same_lack n s.from (Some a) (Some b) p q in
      let lacks : a ≡ b = cc in
      e ∙ (ap (λ (lack : Lack). Err (origin_fault lack)) lacks ∙ sym f)
  from_origin s depart one other (inl (a, p, e)) (inr (known, q)) = let same = same_lack n s.from (Some a) None p known in cc
  from_origin s depart one other (inr (known, p)) (inl (b, q, f)) = let same = same_lack n s.from (Some b) None q known in cc
  from_origin s depart one other (inr (_, p)) (inr (_, q)) = from_destination s depart one other p q

  from_clock : (s : Shape) (one other : Result Asked QueryFault) → FromClock s one → FromClock s other → one ≡ other
  from_clock s one other (inl (a, p, e)) (inl (b, q, f)) =
      let same : a ≡ b = cc in
      e ∙ (ap (λ (fault : QueryFault). Err fault) same ∙ sym f)
  from_clock s one other (inl (a, p, e)) (inr (depart, q, _)) = cc
  from_clock s one other (inr (depart, p, _)) (inl (b, q, f)) = cc
  from_clock s one other (inr (a, p, x)) (inr (b, q, y)) =
      let same : a ≡ b = cc in
      from_origin s b one other (subst (λ (depart : ℕ). FromOrigin s depart one) same x) y

  from_shape : (one other : Result Asked QueryFault) → FromShape one → FromShape other → one ≡ other
  from_shape one other (inl (p, e)) (inl (q, f)) = e ∙ sym f
  from_shape one other (inl (p, e)) (inr (s, q, _)) = cc
  from_shape one other (inr (s, p, _)) (inl (q, f)) = cc
  from_shape one other (inr (s, p, x)) (inr (z, q, y)) =
      let same : s ≡ z = cc in
      from_clock z one other (subst (λ (t : Shape). FromClock t one) same x) y

  -- ---- a line's reading, part by part

  after_clock : (r : Result Asked QueryFault) (s : Shape) (depart : ℕ) → Departs n line s depart → FromOrigin s depart r → FromShape r
  after_clock r s depart departs rest = inr (s, departs.shape_is, inr (depart, departs.departs, rest))

  at_expression : (o : Result Form ExprFault) (s : Shape) (depart : ℕ) → ReachesExpression n line s depart → IsParse s.expr o → FromShape (of_expression s depart o)
  at_expression o s depart reaches outcome =
      after_clock (of_expression s depart o) s depart reaches.departs (inr (reaches.from_known, inr (reaches.to_known, (o, outcome, refl))))

  parts_of : (r : Result Asked QueryFault) → IsReading n line r → FromShape r
  parts_of (Ok asked) asks =
      let s = asks.shape in
      let is : of_expression s asked.depart (Ok asked.form) ≡ Ok asked =
      ap₂ (λ (from : Endpoint) (to : Endpoint). Ok (record { from = from; to = to; depart = asked.depart; form = asked.form })) (sym asks.from_is) (sym asks.to_is) in
      subst FromShape is (at_expression (Ok asked.form) s asked.depart asks.reaches asks.expression)
  parts_of (Err NoShape) none = inl (none, refl)
  parts_of (Err BadClock) (s, shape, bad) = inr (s, shape, inl (BadClock, bad, refl))
  parts_of (Err OutOfRange) (s, shape, bad) = inr (s, shape, inl (OutOfRange, bad, refl))
  parts_of (Err UnknownFrom) (s, depart, departs, none) = after_clock (Err UnknownFrom) s depart departs (inl (Unknown, none, refl))
  parts_of (Err UnknownTo) (s, depart, departs, known, none) = after_clock (Err UnknownTo) s depart departs (inr (known, inl (Unknown, none, refl)))
  parts_of (Err (TooLong bytes)) (s, depart, reaches, fault) = at_expression (Err (LongExpression bytes)) s depart reaches fault
  parts_of (Err (TooDeep at)) (s, depart, reaches, fault) = at_expression (Err (DeepExpression at)) s depart reaches fault
  parts_of (Err (Syntax at)) (s, depart, reaches, fault) = at_expression (Err (BadSyntax at)) s depart reaches fault
  parts_of (Err (TooLarge places)) (s, depart, reaches, fault) = at_expression (Err (LargeExpression places)) s depart reaches fault
  parts_of (Err (OffNetwork false mm)) (s, depart, departs, far) = after_clock (Err (OffNetwork false mm)) s depart departs (inl (Far mm, far, refl))
  parts_of (Err (OffNetwork true mm)) (s, depart, departs, known, far) = after_clock (Err (OffNetwork true mm)) s depart departs (inr (known, inl (Far mm, far, refl)))
  parts_of (Err OutOfMemory) none = absurd none

pub reading_is_unique : ReadingIsUnique
reading_is_unique n line one other p q = from_shape n line one other (parts_of n line one p) (parts_of n line other q)
