-- How a text is read, a token at a time. Lists have the latest part first.
use Rattle.std.specs.Prelude.{ℕ, ◌&&◌, nat_le, List, [], ◌∷◌, Option, Some, None, Result, Ok, Err, if◌then◌else◌}
use Rattle.mode_expression.specs.{declared.token.Token.Token, declared.token.Token.TheVariants.Name, declared.token.Token.TheVariants.Number, declared.token.Token.TheVariants.Bar, declared.token.Token.TheVariants.Star, declared.token.Token.TheVariants.Plus, declared.token.Token.TheVariants.Question, declared.token.Token.TheVariants.OpenBrace, declared.token.Token.TheVariants.CloseBrace, declared.token.Token.TheVariants.Comma, declared.token.Token.TheVariants.Open, declared.token.Token.TheVariants.Close, declared.place.Place.Place, declared.place.Place.TheVariants.NeedsAtom, declared.place.Place.TheVariants.AfterAtom, declared.place.Place.TheVariants.AfterItem, declared.place.Place.TheVariants.Least, declared.place.Place.TheVariants.AfterLeast, declared.place.Place.TheVariants.Most, declared.place.Place.TheVariants.AfterMost, Form.Form, Form.letters, Form.repeated, Grammar.sequence, Grammar.alternative, Tokens.Placed}

-- what was read of a group: its earlier alternatives, and the items of the one that is being read
pub record Frame : Type 0 where
  pub choices : List Form
  pub parts : List Form

-- the groups that are open around this one, this one, and what may stand next
pub record Reading : Type 0 where
  pub outer : List Frame
  pub frame : Frame
  pub place : Place

abbrev pub empty_frame : Frame
empty_frame = record { choices = []; parts = [] }

abbrev pub empty_reading : Reading
empty_reading = record { outer = []; frame = empty_frame; place = NeedsAtom }

abbrev pub with_part : Frame → Form → Frame
with_part frame form = record { choices = frame.choices; parts = form ∷ frame.parts }

-- the parts in order, and then more
abbrev pub in_order_onto : List Form → List Form → List Form
in_order_onto [] more = more
in_order_onto (part ∷ parts) more = in_order_onto parts (part ∷ more)

abbrev pub sequence_of : Frame → Form
sequence_of frame = sequence (in_order_onto frame.parts [])

abbrev pub with_choice : Frame → Frame
with_choice frame = record { choices = sequence_of frame ∷ frame.choices; parts = [] }

-- the expression of a group
abbrev pub group_of : Frame → Form
group_of frame = alternative (in_order_onto (sequence_of frame ∷ frame.choices) [])

abbrev pub at_place : Reading → Place → Reading
at_place s place = record { outer = s.outer; frame = s.frame; place = place }

abbrev pub put_atom : Reading → Form → Reading
put_atom s form = record { outer = s.outer; frame = with_part s.frame form; place = AfterAtom }

abbrev pub open_group : Reading → Reading
open_group s = record { outer = s.frame ∷ s.outer; frame = empty_frame; place = NeedsAtom }

abbrev pub close_onto : List Frame → Form → Option Reading
close_onto [] form = None
close_onto (frame ∷ outer) form = Some (record { outer = outer; frame = with_part frame form; place = AfterAtom })

abbrev pub close_group : Reading → Option Reading
close_group s = close_onto s.outer (group_of s.frame)

abbrev pub end_row : Reading → Reading
end_row s = record { outer = s.outer; frame = with_choice s.frame; place = NeedsAtom }

abbrev pub repeat_first : List Form → List Form → ℕ → Option ℕ → Option Frame
repeat_first choices [] least most = None
repeat_first choices (part ∷ parts) least most = Some (record { choices = choices; parts = repeated part least most ∷ parts })

-- the last item repeated, if there is one
abbrev pub repeat_in : Frame → ℕ → Option ℕ → Option Frame
repeat_in frame least most = repeat_first frame.choices frame.parts least most

abbrev pub after_item : List Frame → Option Frame → Option Reading
after_item outer None = None
after_item outer (Some frame) = Some (record { outer = outer; frame = frame; place = AfterItem })

abbrev pub repeat_last : Reading → ℕ → Option ℕ → Option Reading
repeat_last s least most = after_item s.outer (repeat_in s.frame least most)

-- where an atom has to stand
abbrev pub step_atom : Reading → Token → Option Reading
step_atom s (Name bits) = Some (put_atom s (letters bits))
step_atom s Open = Some (open_group s)
step_atom s _ = None

-- after an item
abbrev pub step_item : Reading → Token → Option Reading
step_item s Bar = Some (end_row s)
step_item s Close = close_group s
step_item s token = step_atom s token

-- after an atom, which may have a suffix
abbrev pub step_suffix : Reading → Token → Option Reading
step_suffix s Star = repeat_last s 0 None
step_suffix s Plus = repeat_last s 1 None
step_suffix s Question = repeat_last s 0 (Some 1)
step_suffix s OpenBrace = Some (at_place s Least)
step_suffix s token = step_item s token

abbrev pub step_least : Reading → Token → Option Reading
step_least s (Number n) = Some (at_place s (AfterLeast n))
step_least s _ = None

abbrev pub step_after_least : Reading → ℕ → Token → Option Reading
step_after_least s n CloseBrace = if nat_le 1 n then repeat_last s n (Some n) else None
step_after_least s n Comma = Some (at_place s (Most n))
step_after_least s n _ = None

abbrev pub step_most : Reading → ℕ → Token → Option Reading
step_most s m (Number n) = if nat_le 1 n && nat_le m n then Some (at_place s (AfterMost m n)) else None
step_most s m _ = None

abbrev pub step_after_most : Reading → ℕ → ℕ → Token → Option Reading
step_after_most s m n CloseBrace = repeat_last s m (Some n)
step_after_most s m n _ = None

abbrev pub step_at : Place → Reading → Token → Option Reading
step_at NeedsAtom s token = step_atom s token
step_at AfterAtom s token = step_suffix s token
step_at AfterItem s token = step_item s token
step_at Least s token = step_least s token
step_at (AfterLeast n) s token = step_after_least s n token
step_at (Most m) s token = step_most s m token
step_at (AfterMost m n) s token = step_after_most s m n token

-- what one more token makes of the reading, if it may stand there
abbrev pub step : Reading → Token → Option Reading
step s token = step_at s.place s token

abbrev pub whole_if_closed : List Frame → Frame → Option Form
whole_if_closed [] frame = Some (group_of frame)
whole_if_closed (_ ∷ _) frame = None

abbrev pub finish_at : Place → Reading → Option Form
finish_at AfterAtom s = whole_if_closed s.outer s.frame
finish_at AfterItem s = whole_if_closed s.outer s.frame
finish_at _ s = None

-- the expression, where the text may end here
abbrev pub finish : Reading → Option Form
finish s = finish_at s.place s

abbrev pub ok_or_at : ℕ → Option Form → Result Form ℕ
ok_or_at at None = Err at
ok_or_at at (Some form) = Ok form

-- what `read` makes of the next reading, or the offset where there is none
abbrev pub read_on : ℕ → Option Reading → (Reading → Result Form ℕ) → Result Form ℕ
read_on at None read = Err at
read_on at (Some s) read = read s

-- the expression, or the offset of the first token that may not stand there
abbrev pub read_from : ℕ → Reading → List Placed → Result Form ℕ
read_from end s [] = ok_or_at end (finish s)
read_from end s (t ∷ tokens) = read_on t.at (step s t.token) (λ next. read_from end next tokens)
