use Rattle.std.specs.Prelude.{ℕ, List, Option, Vec, option_map}
use Rattle.std.specs.declared.string.String.{String}
use Rattle.std.specs.declared.alloc.Global.{Global}
use Rattle.std.specs.BTreeMap.{BTreeMap, get_by_text}

-- the bytes that a map of files has under a name
abbrev pub files_of : BTreeMap (String Global) (Vec ℕ Global) → List ℕ → Option (List ℕ)
files_of files name = option_map (λ file. file.items) (get_by_text files name)
