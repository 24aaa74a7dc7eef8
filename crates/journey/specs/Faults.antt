-- The faults of a query: their numbers, and those that are faults of its expression or of an endpoint.
use Rattle.std.specs.Prelude.{ℕ, true, false, Option, Some, None}
use Rattle.mode_expression.specs.{ExprFault, TooLong as LongExpression, TooDeep as DeepExpression, Syntax as BadSyntax, TooLarge as LargeExpression, OutOfMemory as NoMemory}
use Rattle.journey.specs.{declared.fault.QueryFault.QueryFault, declared.fault.QueryFault.TheVariants.Shape, declared.fault.QueryFault.TheVariants.BadClock, declared.fault.QueryFault.TheVariants.OutOfRange}
pub use Rattle.journey.specs.{declared.fault.QueryFault.TheVariants.UnknownFrom, declared.fault.QueryFault.TheVariants.UnknownTo, declared.fault.QueryFault.TheVariants.TooLong, declared.fault.QueryFault.TheVariants.TooDeep, declared.fault.QueryFault.TheVariants.Syntax, declared.fault.QueryFault.TheVariants.TooLarge, declared.fault.QueryFault.TheVariants.OffNetwork, declared.fault.QueryFault.TheVariants.OutOfMemory, declared.endpoints.Lack.Lack, declared.endpoints.Lack.TheVariants.Unknown, declared.endpoints.Lack.TheVariants.Far}

-- the numbers of the faults; want of memory has none
abbrev pub number_of : QueryFault → Option ℕ
number_of Shape = Some 1
number_of BadClock = Some 2
number_of OutOfRange = Some 3
number_of UnknownFrom = Some 4
number_of UnknownTo = Some 5
number_of (TooLong bytes) = Some 6
number_of (TooDeep at) = Some 7
number_of (Syntax at) = Some 8
number_of (TooLarge places) = Some 9
number_of (OffNetwork to mm) = Some 10
number_of OutOfMemory = None

-- what an endpoint lacks as a fault, where it is the origin and where it is the destination
abbrev pub origin_fault : Lack → QueryFault
origin_fault Unknown = UnknownFrom
origin_fault (Far mm) = OffNetwork false mm

abbrev pub destination_fault : Lack → QueryFault
destination_fault Unknown = UnknownTo
destination_fault (Far mm) = OffNetwork true mm

-- a fault of an expression as one of a query
abbrev pub fault_of : ExprFault → QueryFault
fault_of (LongExpression bytes) = TooLong bytes
fault_of (DeepExpression at) = TooDeep at
fault_of (BadSyntax at) = Syntax at
fault_of (LargeExpression places) = TooLarge places
fault_of NoMemory = OutOfMemory
