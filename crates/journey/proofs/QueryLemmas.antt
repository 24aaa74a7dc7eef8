-- Why query lines are refused.
use Rattle.plan_base.proofs.Common.{◌≡◌, ℕ, ℤ, zero, suc, ◌<◌, ◌≤◌, ◌⊎◌, ◌∙◌, inl, inr, is_some, nat_lt, Bool, true, false, Option, Some, None, Result, Ok, Err, List, [], ◌∷◌, length, refl, ap, sym, subst, arith, IsTrue, ◌↔◌, All, option_map, slice_index_or, ok_or, le_refl, ltb-true, ltb-false}
use Rattle.service_days.specs.{date_at, DaysMeaning.DaysMeaning}
use Rattle.mode_network.specs.{NetworkLists.NetworkLists, Node, NodeKey, Road as RoadKey, Stop as StopKey, Switch as SwitchKey, Endpoint, Near, NearIn, IsNetwork, IsRoad, rank_of, AreExactly, IsCopy, IsRoadCopy, IsNearestIn, IsNearestRoad, road_points, declared.endpoints.Endpoint.TheVariants.Road, declared.endpoints.Endpoint.TheVariants.Stop}
use Rattle.geo_length.specs.{Point}
use Rattle.mode_network.proofs.LayerLemmas.{layer_node}
use Rattle.plan_base.specs.{Mode, Place}
use Rattle.mode_expression.specs.{ExprFault, TooLong as LongExpression, TooDeep as DeepExpression, Syntax as BadSyntax, TooLarge as LargeExpression, OutOfMemory as NoMemory, IsFault}
use Rattle.journey.specs.{Lack, Unknown, Far, QueryFault, BadClock, OutOfRange, Shape, shape_of, time_at, departure_on, departs_on, departs_at, fault_of, destination_fault, IsRefusal, ReachesExpression, IsKnown, IsUnknown, IsFar, IsLack}

err_is : {a b : QueryFault} → (let r : Result ℕ QueryFault = Err a in r) ≡ Err b → a ≡ b
err_is e = cc

-- there is a range exactly where some number has the property
pub some_exactly : (P : ℕ → Type 0) (o : Option (ℕ × ℕ)) → AreExactly P o → IsTrue (is_some o) ↔ ((v : ℕ) × P v)
some_exactly P (Some range) are = (λ _. (range.0, (are.1 range.0).1 (le_refl _, are.0)), λ _. refl)
some_exactly P None none = (λ no. cc, λ h. absurd (none h.0 h.1))

clock_fault : (days : DaysMeaning) (date ms : Option ℕ) (fault : QueryFault) → departs_on days date ms ≡ Err fault → (fault ≡ BadClock) ⊎ (fault ≡ OutOfRange)
clock_fault days (Some date) (Some ms) fault e = on_day (departure_on days date ms) e
  where
    on_day : (o : Option ℕ) → ok_or o OutOfRange ≡ Err fault → (fault ≡ BadClock) ⊎ (fault ≡ OutOfRange)
    on_day None e = inr (sym (err_is e))
    on_day (Some at) e = cc
clock_fault days (Some date) None fault e = inl (sym (err_is e))
clock_fault days None ms fault e = inl (sym (err_is e))

-- a date and a time of day that give no departure are a bad clock or out of range
pub clock_refusal : (n : NetworkLists) (line : List ℕ) (shape : Shape) → shape_of line ≡ Some shape → (fault : QueryFault) → departs_at n.days shape ≡ Err fault → IsRefusal n line fault
clock_refusal n line shape is fault e = on_fault (clock_fault n.days (date_at shape.date) (time_at shape.time) fault e)
  where
    on_fault : (fault ≡ BadClock) ⊎ (fault ≡ OutOfRange) → IsRefusal n line fault
    on_fault (inl bad) = subst (λ f. IsRefusal n line f) (sym bad) (inr (shape, is, e ∙ ap Err bad))
    on_fault (inr out) = subst (λ f. IsRefusal n line f) (sym out) (inr (shape, is, e ∙ ap Err out))

-- a destination that lacks something, where the origin is known too
pub destination_refusal : (n : NetworkLists) (line : List ℕ) (shape : Shape) (depart : ℕ) → shape_of line ≡ Some shape → departs_at n.days shape ≡ Ok depart
    → IsKnown n shape.from → (lack : Lack) → IsLack n shape.to (Some lack) → IsRefusal n line (destination_fault lack)
destination_refusal n line shape depart is departs known Unknown unknown = inr (shape, depart, record { shape_is = is; departs = departs }, known, unknown)
destination_refusal n line shape depart is departs known (Far mm) far = inr (shape, depart, record { shape_is = is; departs = departs }, known, far)

-- a point of the road nodes is that of one of them
point_copy : (roads : List Node) → All (λ (node : Node). IsRoad node.key) roads → (k : ℕ) (id : ℤ) (at : Place) → k < length (road_points roads)
    → slice_index_or (road_points roads) k (id, at) ≡ (id, at) → IsRoadCopy roads id k
point_copy [] are k id at lt is = absurd (omega arith)
point_copy (node ∷ roads) are zero id at lt is = on_key node.key refl (are 0 node (omega arith))
  where
    on_key : (key : NodeKey) → node.key ≡ key → IsRoad key → IsRoadCopy (node ∷ roads) id 0
    on_key (RoadKey mode other) e road =
        let same : other ≡ id = ap (λ (k : NodeKey). (rank_of k).0) (sym e) ∙ ap (λ (p : Point). p.0) is in
        (mode, ap Some e ∙ ap (λ i. Some (RoadKey mode i)) same)
    on_key (StopKey stop) e road = absurd road
    on_key (SwitchKey other) e road = absurd road
point_copy (node ∷ roads) are (suc k) id at lt is = point_copy roads (λ j d h. are (suc j) d (omega arith)) k id at (omega arith) is

-- the place has a copy where its nearest road node is near enough
pub near_known : (n : NetworkLists) → IsNetwork n → (place : Place) (id : ℤ) (mm : ℕ) → IsNearestRoad n.roads place (Some (id, mm)) → mm ≤ 2000000 → IsKnown n (Near place)
near_known n network place id mm nearest near =
    let (k, lt, is) = nearest.given in
    (k, record { id = id; mm = mm; nearest = nearest; within = near; copy = point_copy n.roads network.parts.roads_are k id nearest.at lt is })

not_near : (mm : ℕ) → (mm ≤ 2000000 → ⊥) → 2000000 < mm
not_near mm far = on_test (nat_lt 2000000 mm) refl
  where
    on_test : (b : Bool) → nat_lt 2000000 mm ≡ b → 2000000 < mm
    on_test true e = ltb-true 2000000 mm e
    on_test false e = absurd (far (ltb-false 2000000 mm e))

-- where it has none, its nearest road node is far
pub far_away : (n : NetworkLists) → IsNetwork n → (place : Place) (id : ℤ) (mm : ℕ) → IsNearestRoad n.roads place (Some (id, mm)) → (IsKnown n (Near place) → ⊥) → IsFar n (Near place) mm
far_away n network place id mm nearest unknown = (id, nearest, not_near mm (λ near. unknown (near_known n network place id mm nearest near)))

-- the same with the road nodes of a mode
pub near_known_in : (n : NetworkLists) → IsNetwork n → (mode : Mode) (place : Place) (id : ℤ) (mm : ℕ) → IsNearestIn n.roads mode place (Some (id, mm)) → mm ≤ 2000000 → IsKnown n (NearIn mode place)
near_known_in n network mode place id mm nearest near =
    let (v, node, is, key, _) = layer_node n.roads mode network.parts.roads_are (id, nearest.at) nearest.given in
    (v, record { id = id; mm = mm; nearest = nearest; within = near; copy = ap (option_map (λ (node : Node). node.key)) is ∙ ap Some key })

pub far_away_in : (n : NetworkLists) → IsNetwork n → (mode : Mode) (place : Place) (id : ℤ) (mm : ℕ) → IsNearestIn n.roads mode place (Some (id, mm)) → (IsKnown n (NearIn mode place) → ⊥) → IsFar n (NearIn mode place) mm
far_away_in n network mode place id mm nearest unknown = (id, nearest, not_near mm (λ near. unknown (near_known_in n network mode place id mm nearest near)))

-- an id or a name that is not known
pub unknown_id : (n : NetworkLists) (endpoint : Endpoint) (id : ℤ) → endpoint ≡ Road id → (IsKnown n endpoint → ⊥) → IsUnknown n endpoint
unknown_id n endpoint id is unknown = subst (IsUnknown n) (sym is) (λ v copy. unknown (v, subst (λ (e : Endpoint). IsCopy n e v) (sym is) copy))

pub unknown_name : (n : NetworkLists) (endpoint : Endpoint) (name : List ℕ) → endpoint ≡ Stop name → (IsKnown n endpoint → ⊥) → IsUnknown n endpoint
unknown_name n endpoint name is unknown = subst (IsUnknown n) (sym is) (λ v copy. unknown (v, subst (λ (e : Endpoint). IsCopy n e v) (sym is) copy))

-- the first fault of an expression, where all other parts are right
pub expression_refusal : (n : NetworkLists) (line : List ℕ) (shape : Shape) (depart : ℕ) → shape_of line ≡ Some shape → departs_at n.days shape ≡ Ok depart
    → IsKnown n shape.from → IsKnown n shape.to → (fault : ExprFault) → (fault ≡ NoMemory) ⊎ IsFault shape.expr fault → IsRefusal n line (fault_of fault)
expression_refusal n line shape depart is departs from to fault h = on_fault fault h
  where
    reaches : ReachesExpression n line shape depart
    reaches = record { departs = record { shape_is = is; departs = departs }; from_known = from; to_known = to }

    on_fault : (fault : ExprFault) → (fault ≡ NoMemory) ⊎ IsFault shape.expr fault → IsRefusal n line (fault_of fault)
    on_fault NoMemory h = inl refl
    on_fault (LongExpression bytes) (inl e) = cc
    on_fault (LongExpression bytes) (inr bad) = inr (shape, depart, reaches, bad)
    on_fault (DeepExpression at) (inl e) = cc
    on_fault (DeepExpression at) (inr bad) = inr (shape, depart, reaches, bad)
    on_fault (BadSyntax at) (inl e) = cc
    on_fault (BadSyntax at) (inr bad) = inr (shape, depart, reaches, bad)
    on_fault (LargeExpression places) (inl e) = cc
    on_fault (LargeExpression places) (inr bad) = inr (shape, depart, reaches, bad)
