use Rattle.plan_base.specs.{declared.reading.ShelfError.ShelfError, declared.reading.ReadFault.ReadFault}
use Rattle.plan_base.specs.declared.reading.ShelfError.TheVariants as shelf
use Rattle.plan_base.specs.declared.reading.ReadFault.TheVariants as fault

-- a refused read, as the fault of a whole file
abbrev pub read_fault_of : ShelfError → ReadFault
read_fault_of shelf.Missing = fault.Missing
read_fault_of shelf.Failed = fault.Failed
