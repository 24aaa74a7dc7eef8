-- What is counted for query lines comes to one sum.
use Rattle.plan_base.proofs.Common.{◌≡◌, ℕ, ◌+◌, inl, inr, List, [], ◌∷◌, Option, sym, ap₂, ◌∙◌}
use Rattle.product_search.specs.{StopsAreDue}
use Rattle.hierarchy.specs.{HierarchyLists}
use Rattle.mode_network.specs.NetworkLists.{NetworkLists}
use Rattle.run_steps.specs.{declared.limits.Limits.Limits, AreCounted}
use Rattle.answer_commands.specs.{IsAnswerCount}
use Rattle.promises.specs.{SettledIsUnique}
use Rattle.promises.proofs.LabelsLemmas.{settled_within_once}

-- where what is counted for a line is one number, it is so for lines
sum_once : (Counts : List ℕ → ℕ → Type 0) → ((line : List ℕ) (a b : ℕ) → Counts line a → Counts line b → a ≡ b)
    → (lines : List (List ℕ)) (a b : ℕ) → AreCounted Counts lines a → AreCounted Counts lines b → a ≡ b
sum_once Counts once [] a b e f = e ∙ sym f
sum_once Counts once (line ∷ lines) a b (x, y, here, there, e) (v, w, also, too, f) =
    e ∙ (ap₂ (λ (j k : ℕ). j + k) (once line x v here also) (sum_once Counts once lines y w there too) ∙ sym f)

answer_count_once : StopsAreDue → (n : NetworkLists) (h : Option HierarchyLists) (limits : Limits) (line : List ℕ) (a b : ℕ)
    → IsAnswerCount n h limits line a → IsAnswerCount n h limits line b → a ≡ b
answer_count_once due n h limits line a b (inl (c, large, e)) (inl (d, also, f)) = e ∙ sym f
answer_count_once due n h limits line a b (inl (c, large, e)) (inr (small, is)) = absurd (small c large)
answer_count_once due n h limits line a b (inr (small, is)) (inl (d, also, f)) = absurd (small d also)
answer_count_once due n h limits line a b (inr (_, is)) (inr (_, also)) = settled_within_once n h due limits.labels line a b is also

pub settled_is_unique : StopsAreDue → SettledIsUnique
settled_is_unique due n h limits lines one other = sum_once (IsAnswerCount n h limits) (answer_count_once due n h limits) lines one other
