use Rattle.std.specs.Prelude.{◌≡◌, ℕ, ◌<◌, ◌≤◌, List, length, take, drop, Option, Some, IfSome, IsSomeAnd}

-- what a shelf holds under each name, where it tells; how often a name was missed, and how often reading failed
pub record ShelfMeaning : Type 0 where
  pub files : Option (List ℕ → Option (List ℕ))
  pub misses : ℕ
  pub faults : ℕ

-- the files never change, and the counts never fall
pub record IsLater (old new : ShelfMeaning) : Type 0 where
  pub files : new.files ≡ old.files
  pub misses : old.misses ≤ new.misses
  pub faults : old.faults ≤ new.faults

-- where the shelf tells, what it holds under the name has P
abbrev pub Told : ShelfMeaning → List ℕ → (Option (List ℕ) → Type 0) → Type 0
Told s name P = IfSome s.files (λ files. P (files name))

-- the first n bytes of a buffer are the file's from there on, and none come only at its end
pub record AreBytesAt (file : List ℕ) (from n : ℕ) (into : List ℕ) : Type 0 where
  pub same : take n into ≡ take n (drop from file)
  pub end : n ≡ 0 → 0 < length into → length file ≤ from

-- a read of n bytes gave what the shelf holds under the name
abbrev pub Gave : ShelfMeaning → List ℕ → ℕ → ℕ → List ℕ → Type 0
Gave s name from n into = Told s name (λ held. IsSomeAnd held (λ file. AreBytesAt file from n into))

-- these bytes are the whole file of that name, and no more than the cap
pub record HasRead (s : ShelfMeaning) (name : List ℕ) (cap : ℕ) (bytes : List ℕ) : Type 0 where
  pub file : Told s name (λ held. held ≡ Some bytes)
  pub within : length bytes ≤ cap
