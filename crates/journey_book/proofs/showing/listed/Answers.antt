use Rattle.plan_base.proofs.Common.{◌≡◌, ◌∙◌, ◌+◌, ◌<◌, ◌++◌, ◌∷◌, [], List, ℕ, map, string_bytes, take, length, arith, sym, ap, ap₂, append_assoc, map-append, take_more}
use Rattle.plain_texts.specs.{lines_text, with_feed}
use Rattle.journey_book.proofs.ReportLemmas.{lines_more}
use Rattle.journey_book.proofs.showing.listed.Goals as goal

pub loop-name-preserved : goal.loop-name-preserved
loop-name-preserved c =
    let all = c.args.names.now in
    let i = c.loop-name.name-index in
    let name = string_bytes c.name-item.result in
    let within : i < length all = omega (arith, c.loop-name-test.true) in
    let names : map string_bytes (take (i + 1) all) ≡ map string_bytes (take i all) ++ name ∷ [] =
    ap (map string_bytes) (take_more all i c.name-item.result within ∙ ap (λ x. take i all ++ x ∷ []) (sym c.name-item.is)) ∙ map-append string_bytes (take i all) (c.name-item.result ∷ []) in
    let text : c.push_line_feed.new.out.items ≡ lines_text (map string_bytes (take i all)) ++ with_feed name =
    c.in_ok-push_line_feed.ensures ∙ ap (λ (o : List ℕ). o ++ 10 ∷ []) (c.in_ok-extend_from_slice.ensures.items ∙ ap₂ (λ (a b : List ℕ). a ++ b) c.loop-name.invariant c.as_bytes.ensures.value) ∙ append_assoc (lines_text (map string_bytes (take i all))) name (10 ∷ []) in
    text ∙ sym (ap lines_text names ∙ lines_more (map string_bytes (take i all)) name)
