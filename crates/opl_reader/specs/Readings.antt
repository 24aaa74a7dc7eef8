-- What a reader answers, told by the whole text that it took.
use Rattle.std.specs.Prelude.{◌≡◌, ℕ, List, ◌++◌, None, Some, Ok, Err}
use Rattle.plan_base.specs.{Caps}
use Rattle.opl_reader.specs.{declared.objects.OplFault.OplFault, declared.objects.OplFault.TheVariants.BadLine, declared.objects.OplFault.TheVariants.RepeatedObject, declared.objects.OplFault.TheVariants.TooMany, declared.objects.OplFault.TheVariants.OutOfMemory, Objects.ended_fault, Objects.objects_of, Readers.OplState, Readers.fresh, Readers.with_bytes}

-- the reader took these bytes within these limits, and found no fault
pub record HasTaken (reader : OplState) (caps : Caps) (bytes : List ℕ) : Type 0 where
  pub faultless : reader.fault ≡ None
  pub state : with_bytes (fresh caps) bytes ≡ Ok reader.state

-- the first fault of the lines that have ended, which is that of the text whatever follows
pub record IsEndedFault (caps : Caps) (text : List ℕ) (fault : OplFault) : Type 0 where
  pub ended : ended_fault caps text ≡ Some fault
  pub stays : (more : List ℕ) → objects_of caps (text ++ more) ≡ Err fault

-- that, or want of memory, which is no matter of the text
abbrev pub IsFaultOfEnded : Caps → List ℕ → OplFault → Type 0
IsFaultOfEnded caps text OutOfMemory = Unit {0}
IsFaultOfEnded caps text (BadLine line) = IsEndedFault caps text (BadLine line)
IsFaultOfEnded caps text (RepeatedObject line) = IsEndedFault caps text (RepeatedObject line)
IsFaultOfEnded caps text (TooMany kind) = IsEndedFault caps text (TooMany kind)
