-- What a query line asks of a network, or the first fault that it has.
use Rattle.std.specs.Prelude.{◌≡◌, ◌<◌, ◌⊎◌, ℕ, ℤ, List, true, false, Option, Some, None, Ok, Err}
use Rattle.mode_expression.specs.{ExprFault, TooLong as LongExpression, TooDeep as DeepExpression, Syntax as BadSyntax, TooLarge as LargeExpression, IsExpression, IsFault, Form.Form}
use Rattle.mode_network.specs.{Endpoint, Near, NearIn, IsCopy, IsNearestIn, IsNearestRoad, declared.endpoints.Endpoint.TheVariants.Road, declared.endpoints.Endpoint.TheVariants.Stop, NetworkLists.NetworkLists}
use Rattle.journey.specs.{declared.fault.QueryFault.QueryFault, declared.fault.QueryFault.TheVariants.Shape as NoShape, declared.fault.QueryFault.TheVariants.BadClock, declared.fault.QueryFault.TheVariants.OutOfRange, declared.fault.QueryFault.TheVariants.UnknownFrom, declared.fault.QueryFault.TheVariants.UnknownTo, declared.fault.QueryFault.TheVariants.TooLong, declared.fault.QueryFault.TheVariants.TooDeep, declared.fault.QueryFault.TheVariants.Syntax, declared.fault.QueryFault.TheVariants.TooLarge, declared.fault.QueryFault.TheVariants.OffNetwork, declared.fault.QueryFault.TheVariants.OutOfMemory, declared.endpoints.Lack.Lack, declared.endpoints.Lack.TheVariants.Unknown, declared.endpoints.Lack.TheVariants.Far, Shapes.Shape, Shapes.shape_of, Shapes.departs_at}

-- some node of the network is a copy of the endpoint
abbrev pub IsKnown : NetworkLists → Endpoint → Type 0
IsKnown n endpoint = (v : ℕ) × IsCopy n endpoint v

-- no node has the id or the name; a place is unknown where there is no road node, or none of its mode
abbrev pub IsUnknown : NetworkLists → Endpoint → Type 0
IsUnknown n (Road id) = (v : ℕ) → IsCopy n (Road id) v → ⊥
IsUnknown n (Stop name) = (v : ℕ) → IsCopy n (Stop name) v → ⊥
IsUnknown n (Near place) = IsNearestRoad n.roads place None
IsUnknown n (NearIn mode place) = IsNearestIn n.roads mode place None

-- the endpoint is a place, and its nearest road node, or that of its mode, lies so many millimetres away, which is
-- more than two kilometres
abbrev pub IsFar : NetworkLists → Endpoint → ℕ → Type 0
IsFar n (Road id) mm = ⊥
IsFar n (Stop name) mm = ⊥
IsFar n (Near place) mm = (id : ℤ) × IsNearestRoad n.roads place (Some (id, mm)) × (2000000 < mm)
IsFar n (NearIn mode place) mm = (id : ℤ) × IsNearestIn n.roads mode place (Some (id, mm)) × (2000000 < mm)

-- what an endpoint lacks; or it lacks nothing, and is known
abbrev pub IsLack : NetworkLists → Endpoint → Option Lack → Type 0
IsLack n endpoint None = IsKnown n endpoint
IsLack n endpoint (Some Unknown) = IsUnknown n endpoint
IsLack n endpoint (Some (Far mm)) = IsFar n endpoint mm

-- the line has this shape, and departs then
pub record Departs (n : NetworkLists) (line : List ℕ) (shape : Shape) (depart : ℕ) : Type 0 where
  pub shape_is : shape_of line ≡ Some shape
  pub departs : departs_at n.days shape ≡ Ok depart

-- all parts of the line but its expression are right
pub record ReachesExpression (n : NetworkLists) (line : List ℕ) (shape : Shape) (depart : ℕ) : Type 0 where
  pub departs : Departs n line shape depart
  pub from_known : IsKnown n shape.from
  pub to_known : IsKnown n shape.to

-- the line is a query of the network: for journeys between copies of these endpoints, from this time on, with a word that the form denotes
pub record IsQuery (n : NetworkLists) (line : List ℕ) (from to : Endpoint) (depart : ℕ) (form : Form) : Type 0 where
  pub shape : Shape
  pub reaches : ReachesExpression n line shape depart
  pub from_is : from ≡ shape.from
  pub to_is : to ≡ shape.to
  pub expression : IsExpression shape.expr form

-- all other parts are right, and the expression has this fault
abbrev pub HasBadExpression : NetworkLists → List ℕ → ExprFault → Type 0
HasBadExpression n line fault = (shape : Shape) × (depart : ℕ) × ReachesExpression n line shape depart × IsFault shape.expr fault

-- the line is refused with this fault: that part of it fails, and all earlier parts are right
abbrev pub IsRefused : NetworkLists → List ℕ → QueryFault → Type 0
IsRefused n line NoShape = shape_of line ≡ None
IsRefused n line BadClock = (shape : Shape) × (shape_of line ≡ Some shape) × (departs_at n.days shape ≡ Err BadClock)
IsRefused n line OutOfRange = (shape : Shape) × (shape_of line ≡ Some shape) × (departs_at n.days shape ≡ Err OutOfRange)
IsRefused n line UnknownFrom = (shape : Shape) × (depart : ℕ) × Departs n line shape depart × IsUnknown n shape.from
IsRefused n line UnknownTo =
    (shape : Shape) × (depart : ℕ) × Departs n line shape depart × IsKnown n shape.from × IsUnknown n shape.to
IsRefused n line (TooLong bytes) = HasBadExpression n line (LongExpression bytes)
IsRefused n line (TooDeep at) = HasBadExpression n line (DeepExpression at)
IsRefused n line (Syntax at) = HasBadExpression n line (BadSyntax at)
IsRefused n line (TooLarge places) = HasBadExpression n line (LargeExpression places)
IsRefused n line (OffNetwork false mm) = (shape : Shape) × (depart : ℕ) × Departs n line shape depart × IsFar n shape.from mm
IsRefused n line (OffNetwork true mm) =
    (shape : Shape) × (depart : ℕ) × Departs n line shape depart × IsKnown n shape.from × IsFar n shape.to mm
IsRefused n line OutOfMemory = ⊥

-- what reading a line answers where it is no query: the fault with which it is refused. Want of memory has no cause
abbrev pub IsRefusal : NetworkLists → List ℕ → QueryFault → Type 0
IsRefusal n line fault = (fault ≡ OutOfMemory) ⊎ IsRefused n line fault
