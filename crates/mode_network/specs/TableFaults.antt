-- A fault of a timetable as one of a network.
use Rattle.timetable_arcs.specs.{TableFault, TimeGoesBack, UnknownStop, BadTrip, TooMany, OutOfMemory}
pub use Rattle.mode_network.specs.{declared.faults.NetFault.NetFault, declared.faults.NetFault.TheVariants.Table}
use Rattle.mode_network.specs.declared.faults.NetFault.TheVariants.{OutOfMemory as NoMemory}

abbrev pub table_fault_as : TableFault → NetFault
table_fault_as OutOfMemory = NoMemory
table_fault_as (TimeGoesBack trip) = Table (TimeGoesBack trip)
table_fault_as (UnknownStop trip call) = Table (UnknownStop trip call)
table_fault_as (BadTrip trip) = Table (BadTrip trip)
table_fault_as (TooMany kind) = Table (TooMany kind)
