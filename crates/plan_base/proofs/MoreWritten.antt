use Rattle.plan_base.proofs.Common.{◌≡◌, refl, sym, ap, subst, ◌∙◌, ℕ, ◌+◌, ◌-◌, ◌≤◌, List, ◌++◌, length, take, drop, [], append-nil, Option, None, Some, arith, append_assoc, length-drop, take-add, drop-drop, IfSome, Result, Ok, Err}
use Rattle.std.proofs.Common.{OnErr}
use Rattle.plan_base.specs.{SinkMeaning, Appended, AppendedPart, Stays}

-- one text appended after another, to bytes that are told or not
append-append : (a b c : Option (List ℕ)) (x y : List ℕ) → IfSome a (λ s. b ≡ Some (s ++ x)) → IfSome b (λ s. c ≡ Some (s ++ y)) → IfSome a (λ s. c ≡ Some (s ++ (x ++ y)))
append-append None b c x y p q = tt
append-append (Some s) b c x y p q =
    let r : c ≡ Some ((s ++ x) ++ y) = subst (λ o. IfSome o (λ t. c ≡ Some (t ++ y))) p q in
    r ∙ ap Some (append_assoc s x y)

-- two pieces that were appended in turn were appended as one
pub appended_twice : (a b c : SinkMeaning) (x y : List ℕ) → Appended a b x → Appended b c y → Appended a c (x ++ y)
appended_twice a b c x y p q = append-append a.bytes b.bytes c.bytes x y p q

append-stay : (a b c : Option (List ℕ)) (x : List ℕ) → IfSome a (λ s. b ≡ Some (s ++ x)) → IfSome b (λ s. c ≡ Some s) → IfSome a (λ s. c ≡ Some (s ++ x))
append-stay None b c x p q = tt
append-stay (Some s) b c x p q = subst (λ o. IfSome o (λ t. c ≡ Some t)) p q

-- a piece that was appended is there while what was told stays
pub appended_stays : (a b c : SinkMeaning) (x : List ℕ) → Appended a b x → Stays b c → Appended a c x
appended_stays a b c x p q = append-stay a.bytes b.bytes c.bytes x p q

-- what a sink tells stays while nothing is written
pub stays_so : (sink : SinkMeaning) → Stays sink sink
stays_so sink = so sink.bytes
  where
    so : (told : Option (List ℕ)) → IfSome told (λ s. told ≡ Some s)
    so None = tt
    so (Some s) = refl

pub appended_nothing : (sink : SinkMeaning) → Appended sink sink []
appended_nothing sink = so sink.bytes
  where
    so : (told : Option (List ℕ)) → IfSome told (λ s. told ≡ Some (s ++ []))
    so None = tt
    so (Some s) = ap Some (sym (append-nil s))

-- what is written is a front of the piece, and what is left is the rest of it, after one more write too
pub record IsWrittenTo (old now : SinkMeaning) (piece rest : List ℕ) : Type 0 where
  pub shorter : length rest ≤ length piece
  pub left : rest ≡ drop (length piece - length rest) piece
  pub written : Appended old now (take (length piece - length rest) piece)

pub written_more : (old now new : SinkMeaning) (piece rest : List ℕ) (n : ℕ) → n ≤ length rest → IsWrittenTo old now piece rest → Appended now new (take n rest) → IsWrittenTo old new piece (drop n rest)
written_more old now new piece rest n within before wrote =
    let shorter : length rest ≤ length piece = before.shorter in
    let len : length (drop n rest) ≡ length rest - n = length-drop n rest in
    let at : length piece - length (drop n rest) ≡ (length piece - length rest) + n = omega (arith, len, within, shorter) in
    record {
      shorter = omega (arith, len, shorter);
      left = ap (λ xs. drop n xs) before.left ∙ drop-drop n (length piece - length rest) piece ∙ ap (λ k. drop k piece) (sym at);
      written = subst (λ xs. Appended old new xs)
          (ap (λ xs. take (length piece - length rest) piece ++ take n xs) before.left ∙ sym (take-add (length piece - length rest) n piece) ∙ ap (λ k. take k piece) (sym at))
          (appended_twice old now new (take (length piece - length rest) piece) (take n rest) before.written wrote);
    }

-- where a write fails then, a front of the piece was appended
pub part_left : (old now new : SinkMeaning) (piece rest : List ℕ) → IsWrittenTo old now piece rest → Stays now new → AppendedPart old new piece
part_left old now new piece rest before stays = record {
  count = length piece - length rest;
  front = appended_stays old now new (take (length piece - length rest) piece) before.written stays;
}

pub on_err : {X E : Type 0} {P : Type 0} (r : Result X E) → P → OnErr r P
on_err (Ok x) p = tt
on_err (Err e) p = p
