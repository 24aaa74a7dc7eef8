-- What a reader answers, told by the whole text.
use Rattle.plan_base.proofs.Common.{◌≡◌, ℕ, List, [], ◌++◌, map, refl, sym, ap, subst, ◌∙◌, Option, Some, None, Ok, Err, Result, OnOk, IfOk, IfErr}
use Rattle.std.specs.Result.{result_err}
use Rattle.plan_base.specs.{Caps}
use Rattle.plain_texts.specs.{pieces, lines_of}
use Rattle.opl_reader.specs.{OplFault, BadLine, RepeatedObject, TooMany, OutOfMemory, Line, map_line_of, AreObjects, all_but_last, ended_fault, first_line_fault, faultless, objects_on, objects_of_lines, objects_of, GatheredLists, nothing_gathered, last_line, objects_from, IsFaultOf, ReaderState, on_ok, fresh, with_bytes, finished, HasTaken, IsEndedFault, IsFaultOfEnded, ObjectLists.ObjectLists}
use Rattle.opl_reader.proofs.{AppendLemmas.with_both, LineLemmas.last_piece, LineLemmas.ended_bytes, LineLemmas.all_bytes, SeenLemmas.gathered_on, SeenLemmas.with_all, PlacedLemmas.objects_are, SoundLemmas.sound_text}

then_on : {A B C : Type 0} (r : Result A OplFault) (f : A → Result B OplFault) (g : B → Result C OplFault) → on_ok (on_ok r f) g ≡ on_ok r (λ a. on_ok (f a) g)
then_on (Ok a) f g = refl
then_on (Err fault) f g = refl

gives_objects : (caps : Caps) (lines : List Line) → on_ok (faultless (first_line_fault caps [] lines) (gathered_on lines)) (λ g. Ok (objects_from g)) ≡ objects_of_lines caps lines
gives_objects caps lines = by_fault (first_line_fault caps [] lines) refl
  where
    by_fault : (o : Option OplFault) → first_line_fault caps [] lines ≡ o → on_ok (faultless o (gathered_on lines)) (λ g. Ok (objects_from g)) ≡ faultless o (objects_on lines)
    by_fault None is = ap Ok (objects_are caps lines is)
    by_fault (Some fault) is = refl

-- taking a text and ending it gives its objects
pub whole_text : (caps : Caps) (text : List ℕ) → on_ok (with_bytes (fresh caps) text) finished ≡ objects_of caps text
unfolding objects_of
whole_text caps text =
    let lines = map map_line_of (lines_of text) in
    sym (then_on (with_bytes (fresh caps) text) (λ t. last_line t.caps t.gathered t.held) (λ g. Ok (objects_from g)))
    ∙ ap (λ r. on_ok r (λ g. Ok (objects_from g))) (all_bytes caps nothing_gathered text ∙ with_all caps [] lines)
    ∙ gives_objects caps lines

abbrev held_behind : Caps → List ℕ → GatheredLists → ReaderState
held_behind caps text g = record { caps = caps; gathered = g; held = last_piece (pieces text) }

-- what the lines that have ended give
ended_text : (caps : Caps) (text : List ℕ) → with_bytes (fresh caps) text ≡ on_ok (faultless (ended_fault caps text) (gathered_on (map map_line_of (all_but_last (pieces text))))) (λ g. Ok (held_behind caps text g))
unfolding ended_fault
ended_text caps text = ended_bytes caps nothing_gathered text ∙ ap (λ r. on_ok r (λ g. Ok (held_behind caps text g))) (with_all caps [] (map map_line_of (all_but_last (pieces text))))

no_fault : {A B : Type 0} (o : Option OplFault) (a : A) (f : A → B) (b : B) → Ok b ≡ on_ok (faultless o a) (λ a. Ok (f a)) → o ≡ None
no_fault None a f b e = refl
no_fault (Some fault) a f b e = absurd cc

same_fault : {A B : Type 0} (o : Option OplFault) (a : A) (f : A → B) (fault : OplFault) → ◌≡◌ {A = Result B OplFault} (Err fault) (on_ok (faultless o a) (λ a. Ok (f a))) → o ≡ Some fault
same_fault None a f fault e = absurd cc
same_fault (Some other) a f fault e = ap Some (sym (err_is fault other e))
  where
    err_is : {B : Type 0} (x y : OplFault) → ◌≡◌ {A = Result B OplFault} (Err x) (Err y) → x ≡ y
    err_is x y e = cc

pub ended_ok : (caps : Caps) (text : List ℕ) (s : ReaderState) → with_bytes (fresh caps) text ≡ Ok s → ended_fault caps text ≡ None
ended_ok caps text s e = no_fault (ended_fault caps text) (gathered_on (map map_line_of (all_but_last (pieces text)))) (held_behind caps text) s (sym e ∙ ended_text caps text)

pub is_ended : (caps : Caps) (text : List ℕ) (fault : OplFault) → with_bytes (fresh caps) text ≡ Err fault → IsEndedFault caps text fault
is_ended caps text fault e = record {
  ended = same_fault (ended_fault caps text) (gathered_on (map map_line_of (all_but_last (pieces text)))) (held_behind caps text) fault (sym e ∙ ended_text caps text);
  stays = λ more. sym (whole_text caps (text ++ more)) ∙ ap (λ r. on_ok r finished) (with_both text more (fresh caps) ∙ ap (λ r. on_ok r (λ t. with_bytes t more)) e);
}

pub none_at_ok : {A : Type 0} (r : Result A OplFault) (fault : Option OplFault) → fault ≡ result_err r → OnOk r (fault ≡ None)
none_at_ok (Ok a) fault e = e
none_at_ok (Err f) fault e = tt

-- the bytes so far and a piece more
joined : (caps : Caps) (bytes piece : List ℕ) (s : ReaderState) → with_bytes (fresh caps) bytes ≡ Ok s → with_bytes (fresh caps) (bytes ++ piece) ≡ with_bytes s piece
joined caps bytes piece s e = with_both bytes piece (fresh caps) ∙ ap (λ r. on_ok r (λ t. with_bytes t piece)) e

pub fault_in_piece : (caps : Caps) (bytes piece : List ℕ) (s : ReaderState) (fault : OplFault) → with_bytes (fresh caps) bytes ≡ Ok s → IsFaultOf (with_bytes s piece) fault → IsFaultOfEnded caps (bytes ++ piece) fault
fault_in_piece caps bytes piece s OutOfMemory e h = tt
fault_in_piece caps bytes piece s (BadLine line) e h = is_ended caps (bytes ++ piece) (BadLine line) (joined caps bytes piece s e ∙ h)
fault_in_piece caps bytes piece s (RepeatedObject line) e h = is_ended caps (bytes ++ piece) (RepeatedObject line) (joined caps bytes piece s e ∙ h)
fault_in_piece caps bytes piece s (TooMany kind) e h = is_ended caps (bytes ++ piece) (TooMany kind) (joined caps bytes piece s e ∙ h)

module _ (caps : Caps) (bytes piece : List ℕ) (old new : ReaderState) (fault : Option OplFault) (before : with_bytes (fresh caps) bytes ≡ Ok old) where
  pub takes : (r : Result (Unit {0}) OplFault) → OnOk r (with_bytes old piece ≡ Ok new) → OnOk r (fault ≡ None) → OnOk r (HasTaken (record { state = new; fault = fault }) caps (bytes ++ piece))
  takes (Ok x) h none = record { faultless = none; state = joined caps bytes piece old before ∙ h }
  takes (Err f) h none = tt

  pub takes_faultless : (r : Result (Unit {0}) OplFault) → OnOk r (with_bytes old piece ≡ Ok new) → OnOk r (ended_fault caps (bytes ++ piece) ≡ None)
  takes_faultless (Ok x) h = ended_ok caps (bytes ++ piece) new (joined caps bytes piece old before ∙ h)
  takes_faultless (Err f) h = tt

  pub takes_fault : (r : Result (Unit {0}) OplFault) → IfErr r (IsFaultOf (with_bytes old piece)) → IfErr r (IsFaultOfEnded caps (bytes ++ piece))
  takes_fault (Ok x) h = tt
  takes_fault (Err f) h = fault_in_piece caps bytes piece old f before h

module _ (caps : Caps) (bytes : List ℕ) (s : ReaderState) (taken : with_bytes (fresh caps) bytes ≡ Ok s) where
  ends : finished s ≡ objects_of caps bytes
  ends = sym (ap (λ r. on_ok r finished) taken) ∙ whole_text caps bytes

  pub gives : (r : Result ObjectLists OplFault) → IfOk r (λ objects. finished s ≡ Ok objects) → IfOk r (λ objects. objects_of caps bytes ≡ Ok objects)
  gives (Ok objects) h = sym ends ∙ h
  gives (Err f) h = tt

  pub gives_sound : (r : Result ObjectLists OplFault) → IfOk r (λ objects. finished s ≡ Ok objects) → IfOk r AreObjects
  gives_sound (Ok objects) h = sound_text caps bytes objects (sym ends ∙ h)
  gives_sound (Err f) h = tt

  pub refuses : (r : Result ObjectLists OplFault) → IfErr r (IsFaultOf (finished s)) → IfErr r (IsFaultOf (objects_of caps bytes))
  refuses (Ok objects) h = tt
  refuses (Err f) h = subst (λ r. IsFaultOf r f) ends h
