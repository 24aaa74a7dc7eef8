-- What a disk tells of the files that are opened in it.
use Rattle.std.specs.Prelude.{◌≡◌, ℕ, List, drop, Option, Some, IfSome, IsSomeAnd}

-- what a disk holds under each path
abbrev pub DiskFiles : Type 0
DiskFiles = List ℕ → Option (List ℕ)

-- where the disk tells, it has a file of this path, and this is what remains of its bytes behind a place
abbrev pub IsRest : Option DiskFiles → List ℕ → ℕ → Option (List ℕ) → Type 0
IsRest told path from rest = IfSome told (λ files. IsSomeAnd (files path) (λ bytes. rest ≡ Some (drop from bytes)))
