-- What a keeper keeps while its book stays.
use Rattle.plan_base.proofs.Common.{◌≡◌, ◌∙◌, refl, sym, subst, ℕ, List, Option, Some, None, IfSome}
use Rattle.journey_book.specs.{Book, KeeperMeaning, Becomes, BookStays, Tells}

pub stays_so : (keeper : KeeperMeaning) → BookStays keeper keeper
stays_so keeper book told = (book, told, λ name. refl)

-- what is changed after the book stayed is changed from the first on
pub stays_then : (old mid new : KeeperMeaning) (change : Book → Book) → ((a b : Book) → ((name : List ℕ) → a name ≡ b name) → (name : List ℕ) → change a name ≡ change b name)
    → BookStays old mid → Becomes mid new change → Becomes old new change
stays_then old mid new change alike first second book told =
    let between = first book told in
    let after = second between.0 between.1 in
    (after.0, after.1, λ name. after.2 name ∙ alike between.0 book between.2 name)

pub stays_over : (old mid new : KeeperMeaning) → BookStays old mid → BookStays mid new → BookStays old new
stays_over old mid new first second = stays_then old mid new (λ book. book) (λ a b alike. alike) first second

-- what was told of a name after the book stayed is true of it before
pub told_before : (old mid : KeeperMeaning) (name : List ℕ) (held : Option (List ℕ)) → BookStays old mid → Tells mid (λ book. book name ≡ held) → Tells old (λ book. book name ≡ held)
told_before old mid name held stays told = on old.book refl
  where
    on : (b : Option Book) → old.book ≡ b → IfSome b (λ book. book name ≡ held)
    on None is = tt
    on (Some book) is =
        let between = stays book is in
        sym (between.2 name) ∙ subst (λ (b : Option Book). IfSome b (λ book. book name ≡ held)) between.1 told
