-- A journey is printed part by part.
use Rattle.plan_base.proofs.Common.{◌≡◌, ℕ, List, [], ◌++◌, ◌∙◌, append_assoc, ap, codes}
use Rattle.plain_texts.specs.{with_feed}
use Rattle.service_days.specs.{clock_text_of}
use Rattle.mode_network.specs.{Step, NetworkLists.NetworkLists}
use Rattle.journey.specs.{declared.telling.Told.Told, inside.IsTold, IsJourneyText, word_text, place_text, block_text, AddsText, IsFramed}

-- what was pushed after one another is one text at the end
four_parts : (old a b c d o1 o2 o3 o4 : List ℕ) → o1 ≡ old ++ a → o2 ≡ o1 ++ b → o3 ≡ o2 ++ c → o4 ≡ o3 ++ d → o4 ≡ old ++ (a ++ b ++ c ++ d)
four_parts old a b c d o1 o2 o3 o4 e1 e2 e3 e4 = rw (e4, e3, e2, e1) (simp append_assoc)

pub adds_journey : (n : NetworkLists) (start at : ℕ) (steps : List Step) (told : Told) (old o1 o2 o3 o4 : List ℕ) → IsTold n start at steps told
    → o1 ≡ old ++ with_feed (codes "arrive " ++ clock_text_of n.days told.at) → o2 ≡ o1 ++ with_feed (word_text told.word.items)
    → o3 ≡ o2 ++ with_feed (codes "from " ++ place_text n start at) → o4 ≡ o3 ++ told.lines.items
    → AddsText (IsJourneyText n (record { start = start; at = at; steps = steps })) old o4
adds_journey n start at steps told old o1 o2 o3 o4 is e1 e2 e3 e4 = record {
  text = with_feed (codes "arrive " ++ clock_text_of n.days told.at) ++ with_feed (word_text told.word.items) ++ with_feed (codes "from " ++ place_text n start at) ++ told.lines.items;
  is = record {
    end = told.node;
    arrival = told.at;
    letters = is.letters;
    steps = told.lines.items;
    told = is.are;
    text_is = ap (λ (w : List ℕ). with_feed (codes "arrive " ++ clock_text_of n.days told.at) ++ with_feed (word_text w) ++ with_feed (codes "from " ++ place_text n start at) ++ told.lines.items) is.word;
  };
  added = four_parts old _ _ _ _ o1 o2 o3 o4 e1 e2 e3 e4;
}

-- the block of a line whose body was written into an empty text
pub framed_text : (P : List ℕ → Type 0) (line empty body block : List ℕ) → empty ≡ [] → AddsText P empty body → block ≡ block_text line body → IsFramed P line block
framed_text P line empty body block none adds is = record {
  text = adds.text;
  is_body = adds.is;
  block_is = is ∙ ap (block_text line) (adds.added ∙ ap (λ (front : List ℕ). front ++ adds.text) none);
}
