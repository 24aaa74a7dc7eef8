-- A map that is read piece by piece.
use Rattle.plan_base.proofs.Common.{◌≡◌, ℕ, ◌+◌, ◌≤◌, ◌<◌, ◌∙◌, inl, inr, List, [], ◌++◌, take, drop, length, Option, Some, None, refl, ap, sym, subst, arith, length-append, length-take-le, IfSome, IsSomeAnd, take-append-drop, take_all}
use Rattle.plan_base.specs.{ShelfMeaning, IsLater, Told, Gave, AreBytesAt, HasRead, Caps}
use Rattle.plan_base.proofs.MoreRead.{IsFrontOf, read_more}
use Rattle.opl_reader.specs.{OplState, HasTaken}
use Rattle.run_steps.specs.declared.outcome.FileRole.TheVariants as role
use Rattle.run_steps.specs.{Outcome, Done, Usage, Missing, ReadFault, TooLong, WriteFault, BadRegion, BadFeed, Invalid, BadCertificate, BadHierarchy, Unsound, OutOfMemory, most_bytes}
use Rattle.run_steps.specs.declared.outcome.SourceFault.TheVariants as source
use Rattle.compile_commands.specs.{BeginsSo, inside.HasFed, inside.IsEndOutcome, inside.IsMapOutcome, inside.IsPieceRefusal}

-- nothing is a front of any file
front_nothing : (held : Option (List ℕ)) → IsFrontOf [] held
front_nothing None = tt
front_nothing (Some file) = refl

told_nothing : (name : List ℕ) (files : Option (List ℕ → Option (List ℕ))) → IfSome files (λ f. IsFrontOf [] (f name))
told_nothing name None = tt
told_nothing name (Some f) = front_nothing (f name)

pub starts : (caps : Caps) (shelf : ShelfMeaning) (name : List ℕ) (reader : OplState) → HasTaken reader caps [] → HasFed caps shelf name reader 0
starts caps shelf name reader taken = record { bytes = []; front = told_nothing name shelf.files; long = refl; taken = taken }

-- a front of a file that is held begins it
begins : (bytes into : List ℕ) (n from : ℕ) (held : Option (List ℕ)) → IsFrontOf bytes held → IsSomeAnd held (λ file. AreBytesAt file from n into) → IsSomeAnd held (BeginsSo bytes)
begins bytes into n from None front gave = absurd gave
begins bytes into n from (Some file) front gave =
    (drop (length bytes) file, subst (λ (x : List ℕ). file ≡ x ++ drop (length bytes) file) (sym front) (sym (take-append-drop (length bytes) file)))

told_begins : (name bytes into : List ℕ) (n from : ℕ) (files : Option (List ℕ → Option (List ℕ))) → IfSome files (λ f. IsFrontOf bytes (f name))
    → IfSome files (λ f. IsSomeAnd (f name) (λ file. AreBytesAt file from n into)) → IfSome files (λ f. IsSomeAnd (f name) (BeginsSo bytes))
told_begins name bytes into n from None front gave = tt
told_begins name bytes into n from (Some f) front gave = begins bytes into n from (f name) front gave

-- a file that gives no more is read whole
is_whole : (bytes into : List ℕ) → 0 < length into → (held : Option (List ℕ)) → IsFrontOf bytes held → IsSomeAnd held (λ file. AreBytesAt file (length bytes) 0 into) → held ≡ Some bytes
is_whole bytes into some None front gave = absurd gave
is_whole bytes into some (Some file) front gave = ap Some (sym (front ∙ take_all (length bytes) file (gave.end refl some)))

told_whole : (name bytes into : List ℕ) → 0 < length into → (files : Option (List ℕ → Option (List ℕ))) → IfSome files (λ f. IsFrontOf bytes (f name))
    → IfSome files (λ f. IsSomeAnd (f name) (λ file. AreBytesAt file (length bytes) 0 into)) → IfSome files (λ f. f name ≡ Some bytes)
told_whole name bytes into some None front gave = tt
told_whole name bytes into some (Some f) front gave = is_whole bytes into some (f name) front gave

-- a file is as long as what begins it
is_long : (bytes : List ℕ) (most : ℕ) → most < length bytes → (held : Option (List ℕ)) → IsSomeAnd held (BeginsSo bytes) → IsSomeAnd held (λ file. most < length file)
is_long bytes most lt None begins = absurd begins
is_long bytes most lt (Some file) (more, e) = let n = ap length e in omega (arith, n, length-append bytes more)

told_long : (name bytes : List ℕ) (most : ℕ) → most < length bytes → (files : Option (List ℕ → Option (List ℕ))) → IfSome files (λ f. IsSomeAnd (f name) (BeginsSo bytes))
    → IfSome files (λ f. IsSomeAnd (f name) (λ file. most < length file))
told_long name bytes most lt None begins = tt
told_long name bytes most lt (Some f) begins = is_long bytes most lt (f name) begins

-- what a piece gave
module _ (caps : Caps) (first now : ShelfMeaning) (later : IsLater first now) (name into : List ℕ) (n count : ℕ) (reader : OplState)
    (fed : HasFed caps first name reader count) (within : n ≤ length into) (gave : Gave now name count n into) where
  gave_at : Gave now name (length fed.bytes) n into
  gave_at = subst (λ (from : ℕ). Gave now name from n into) (sym fed.long) gave

  gave_first : Told first name (λ held. IsSomeAnd held (λ file. AreBytesAt file (length fed.bytes) n into))
  gave_first = subst (λ (files : Option (List ℕ → Option (List ℕ))). IfSome files (λ f. IsSomeAnd (f name) (λ file. AreBytesAt file (length fed.bytes) n into))) later.files gave_at

  more_front : Told first name (IsFrontOf (fed.bytes ++ take n into))
  more_front = read_more first now name fed.bytes into n within later fed.front gave_at

  more_long : length (fed.bytes ++ take n into) ≡ count + n
  more_long = let long = fed.long in let whole = length-append fed.bytes (take n into) in let part = length-take-le n into within in omega (arith, long, whole, part)

  more_begins : Told first name (λ held. IsSomeAnd held (BeginsSo (fed.bytes ++ take n into)))
  more_begins = told_begins name (fed.bytes ++ take n into) into n (length fed.bytes) first.files more_front gave_first

  -- the reader took it
  pub fed_more : (next : OplState) → HasTaken next caps (fed.bytes ++ take n into) → HasFed caps first name next (count + n)
  fed_more next taken = record { bytes = fed.bytes ++ take n into; front = more_front; long = more_long; taken = taken }

  -- the file is too long
  pub too_long : (new : ShelfMeaning) → most_bytes < count + n → IsMapOutcome caps first new name (TooLong role.Opl)
  too_long new lt = (refl, told_long name (fed.bytes ++ take n into) most_bytes (let same = more_long in omega (arith, lt, same)) first.files more_begins)

  -- the piece shows a fault
  pub piece_fails : (new : ShelfMeaning) (outcome : Outcome) → IsPieceRefusal caps (fed.bytes ++ take n into) outcome → IsMapOutcome caps first new name outcome
  piece_fails new (BadFeed (source.Opl fault)) ended = inl (record { bytes = fed.bytes ++ take n into; front = more_begins; first = ended })
  piece_fails new (BadFeed (source.Feed fault)) none = none
  piece_fails new (BadFeed (source.Build fault)) none = none
  piece_fails new OutOfMemory none = none
  piece_fails new Done none = none
  piece_fails new Usage none = none
  piece_fails new (Missing file) none = absurd none
  piece_fails new (ReadFault file) none = absurd none
  piece_fails new (TooLong file) none = absurd none
  piece_fails new WriteFault none = none
  piece_fails new (BadRegion fault) none = none
  piece_fails new (Invalid clause at) none = none
  piece_fails new (BadCertificate line) none = none
  piece_fails new (BadHierarchy fault) none = none
  piece_fails new (Unsound clause at by) none = none

-- the map was read to its end
module _ (caps : Caps) (first now : ShelfMeaning) (later : IsLater first now) (name into : List ℕ) (count : ℕ) (reader : OplState)
    (fed : HasFed caps first name reader count) (some : 0 < length into) (few : count ≤ most_bytes) (gave : Gave now name count 0 into) where
  end_first : Told first name (λ held. IsSomeAnd held (λ file. AreBytesAt file (length fed.bytes) 0 into))
  end_first = subst (λ (files : Option (List ℕ → Option (List ℕ))). IfSome files (λ f. IsSomeAnd (f name) (λ file. AreBytesAt file (length fed.bytes) 0 into))) later.files
      (subst (λ (from : ℕ). Gave now name from 0 into) (sym fed.long) gave)

  pub read_whole_map : HasRead first name most_bytes fed.bytes
  read_whole_map = record { file = told_whole name fed.bytes into some first.files fed.front end_first; within = (let long = fed.long in omega (arith, long, few)) }

  pub end_fails : (new : ShelfMeaning) (outcome : Outcome) → IsEndOutcome caps fed.bytes outcome → IsMapOutcome caps first new name outcome
  end_fails new (BadFeed (source.Opl fault)) at_end = inr (record { bytes = fed.bytes; file = read_whole_map; first = at_end })
  end_fails new (BadFeed (source.Feed fault)) none = none
  end_fails new (BadFeed (source.Build fault)) none = none
  end_fails new OutOfMemory none = none
  end_fails new Done none = none
  end_fails new Usage none = none
  end_fails new (Missing file) none = absurd none
  end_fails new (ReadFault file) none = absurd none
  end_fails new (TooLong file) none = absurd none
  end_fails new WriteFault none = none
  end_fails new (BadRegion fault) none = none
  end_fails new (Invalid clause at) none = none
  end_fails new (BadCertificate line) none = none
  end_fails new (BadHierarchy fault) none = none
  end_fails new (Unsound clause at by) none = none
