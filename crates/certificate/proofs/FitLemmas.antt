-- What each line of two lists in a row says, and of lines that are made alike.
use Rattle.plan_base.proofs.Common.{List, [], ◌∷◌, ◌++◌, map, All, AllByRecursion, All-head, All-tail}

pub both_parts : {X : Type 0} (P : X → Type 0) (xs ys : List X) → AllByRecursion P (xs ++ ys) → AllByRecursion P xs × AllByRecursion P ys
both_parts P [] ys h = (tt, h)
both_parts P (x ∷ xs) ys h = let others = both_parts P xs ys h.1 in ((h.0, others.0), others.1)

pub of_both : {X : Type 0} (P : X → Type 0) (xs ys : List X) → AllByRecursion P xs → AllByRecursion P ys → AllByRecursion P (xs ++ ys)
of_both P [] ys h k = k
of_both P (x ∷ xs) ys h k = (h.0, of_both P xs ys h.1 k)

pub made_alike_fit : {X Y : Type 0} (f : X → Y) (P : X → Type 0) (Q : Y → Type 0) → ((x : X) → P x → Q (f x)) → (xs : List X) → All P xs → AllByRecursion Q (map f xs)
made_alike_fit f P Q h [] all = tt
made_alike_fit f P Q h (x ∷ xs) all = (h x (All-head P x xs all), made_alike_fit f P Q h xs (All-tail P x xs all))
