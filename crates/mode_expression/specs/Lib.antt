pub mod Form
pub mod Letters
pub mod Tokens
pub mod Grammar
pub mod Reading
pub mod inside
pub use Form.{Expr, Seq', Alt', Row_of-Expr, end_of-Expr, more_of-Expr, in_turn, one_of, IsJoined, IsPower, IsWordOf, Denotes, copies, places, IsCount, IsWellFormed, IsUsable, form_of, letters, empty, both, never, either, repeated, form_in_turn, form_of_one}
pub use Letters.{Letter, Foot, Bike, Car, Tram, Metro, Rail, Bus, Ferry, Cable, Lift, Funicular, Trolley, Monorail, Other, number_of, letter_numbered, letter_named, letters_named}
pub use Tokens.{Token, Name, Number, Bar, Star, Plus, Question, OpenBrace, CloseBrace, Comma, Open, Close, Unknown, is_lower, is_digit, Lexeme, joins, widened, lexemes, decimal, symbol_token, name_token, token_of, Placed, placed_token, tokens_from, tokens_of}
pub use Grammar.{Suffix, Choice, Row, Item, Atom, suffix_tokens, sequence, alternative, counted_form, IsSentence, BeginsSentence, star, plus, question, exactly, between, only, or, last, next, plain, counted, name, group, choice_tokens, row_tokens, item_tokens, atom_tokens, choice_forms, row_forms, item_form, atom_form}
pub use Reading.{ExprFault, TooLong, TooDeep, Syntax, TooLarge, OutOfMemory, token, Spells, IsTooDeepAt, IsShallow, IsMisplaced, IsUnfinished, IsReadAs, reading_of, IsExpression, IsFault, IsParse, OutcomeIsUnique, OutcomeExists, ExpressionsAreUsable, ReadsAs}
