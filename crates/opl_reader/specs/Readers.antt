-- What a reader of a map's text knows, and what bytes do to it.
use Rattle.std.specs.Prelude.{ℕ, List, [], ◌∷◌, ◌++◌, Option, Result, Ok, Err}
use Rattle.plan_base.specs.{Caps}
use Rattle.plain_texts.specs.{pieces}
use Rattle.opl_reader.specs.{declared.objects.OplFault.OplFault, ObjectLists.ObjectLists, Lines.map_line_of, Gathered.GatheredLists, Gathered.lists_of, Gathered.nothing_gathered, Gathered.with_line, Gathered.last_line, Gathered.objects_from}
pub use Rattle.opl_reader.specs.declared.reader.Reader.{Reader}

-- the limits, what the lines that have ended gave, and the line that has not
pub record ReaderState : Type 0 where
  pub caps : Caps
  pub gathered : GatheredLists
  pub held : List ℕ

abbrev pub state_of : Reader → ReaderState
state_of r = record { caps = r.caps; gathered = lists_of r.gathered; held = r.held.items }

abbrev pub on_ok : {A B : Type 0} → Result A OplFault → (A → Result B OplFault) → Result B OplFault
on_ok (Ok a) f = f a
on_ok (Err fault) f = Err fault

-- nothing was taken yet
abbrev pub fresh : Caps → ReaderState
fresh caps = record { caps = caps; gathered = nothing_gathered; held = [] }

-- bytes without a line feed join the line that is held
abbrev pub holding : ReaderState → List ℕ → ReaderState
holding s bytes = record s { held = s.held ++ bytes }

-- the line that is held has ended
abbrev pub with_end : ReaderState → Result ReaderState OplFault
with_end s = on_ok (with_line s.caps s.gathered (map_line_of s.held)) (λ g. Ok (record s { gathered = g; held = [] }))

-- What stands before, between and behind line feeds: each but the last ends a line.
abbrev pub with_pieces : ReaderState → List (List ℕ) → Result ReaderState OplFault
with_pieces s [] = Ok s
with_pieces s (piece ∷ []) = Ok (holding s piece)
with_pieces s (piece ∷ next ∷ more) = on_ok (with_end (holding s piece)) (λ t. with_pieces t (next ∷ more))

-- bytes are taken
unfoldable pub with_bytes : ReaderState → List ℕ → Result ReaderState OplFault
with_bytes s bytes = with_pieces s (pieces bytes)

-- The text has ended: what is held is the last line, if it is not empty.
abbrev pub finished : ReaderState → Result ObjectLists OplFault
finished s = on_ok (last_line s.caps s.gathered s.held) (λ g. Ok (objects_from g))

-- what a reader knows, and the fault that it has answered
pub record OplState : Type 0 where
  pub state : ReaderState
  pub fault : Option OplFault
