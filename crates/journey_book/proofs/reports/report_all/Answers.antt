use Rattle.plan_base.proofs.Common.{◌≡◌, ◌∙◌, ◌+◌, ◌<◌, ◌++◌, ◌∷◌, [], List, ℕ, Bool, map, string_bytes, option_map, take, length, subst, refl, arith, rules, sym, ap, ap₂, ◌&&◌, codes, map-append, take_more}
use Rattle.plain_texts.specs.{with_feed}
use Rattle.journey_book.specs.{Tells, HasReported, rule_of}
use Rattle.journey_book.proofs.{KeeperLemmas.stays_over, KeeperLemmas.stays_so, KeeperLemmas.told_before, ReportLemmas.has_more}
use Rattle.journey_book.proofs.reports.report_all.Goals as goal

pub loop-name-init : goal.loop-name-init
loop-name-init g c = record {
  later = omega arith;
  stays = stays_so (g.K.Keeper.meaning c.args.keeper.now);
  lines = ([], search rules, refl);
}

pub loop-name-preserved : goal.loop-name-preserved
loop-name-preserved g c =
    let rule = rule_of c.args.report.now in
    let old = g.K.Keeper.meaning c.args.keeper.now in
    let mid = g.K.Keeper.meaning c.loop-name.keeper in
    let new = g.K.Keeper.meaning c.get.new.self in
    let all = c.args.names.now in
    let i = c.loop-name.name-index in
    let name = string_bytes c.name-item.result in
    let held = option_map (λ body. body.items) c.in_ok-held.held in
    let words = c.in_ok-words.words.items in
    let within : i < length all = omega (arith, c.loop-name-test.true) in
    let names : map string_bytes (take (i + 1) all) ≡ map string_bytes (take i all) ++ name ∷ [] =
    ap (map string_bytes) (take_more all i c.name-item.result within ∙ ap (λ x. take i all ++ x ∷ []) (sym c.name-item.is)) ∙ map-append string_bytes (take i all) (c.name-item.result ∷ []) in
    let text : c.push_line.new.text.items ≡ c.loop-name.text.items ++ with_feed (name ++ codes " " ++ words) =
    c.in_ok-push_line.ensures ∙ ap₂ (λ (k w : List ℕ). c.loop-name.text.items ++ with_feed (k ++ codes " " ++ w)) c.as_str-key.ensures.value c.as_slice-said.ensures.value in
    let well : c.both-well.result ≡ (c.loop-name.well && rule.is_well words) =
    c.both-well.ensures ∙ ap (λ (b : Bool). c.loop-name.well && b) (c.is_well.ensures ∙ ap rule.is_well c.as_slice-said.ensures.value) in
    let told = subst (λ (k : List ℕ). Tells mid (λ book. book k ≡ held)) c.as_str-key.ensures.value c.in_ok-held.ensures.ok in
    let more = has_more rule old (map string_bytes (take i all)) c.loop-name.text.items c.loop-name.well name words c.loop-name.invariant.lines
    (record { held = held; told = told_before old mid name held c.loop-name.invariant.stays told; says = c.in_ok-words.ensures }) in
    record {
      later = omega (arith, c.loop-name.invariant.later, c.in_ok-held.ensures.later);
      stays = stays_over old mid new c.loop-name.invariant.stays c.in_ok-held.ensures.same;
      lines = subst (λ (ns : List (List ℕ)). HasReported rule old ns c.push_line.new.text.items c.both-well.result) (sym names)
          (subst (λ (t : List ℕ). HasReported rule old (map string_bytes (take i all) ++ name ∷ []) t c.both-well.result) (sym text)
          (subst (HasReported rule old (map string_bytes (take i all) ++ name ∷ []) (c.loop-name.text.items ++ with_feed (name ++ codes " " ++ words))) (sym well) more));
    }
