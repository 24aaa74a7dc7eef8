-- What one command writes another one accepts: it is what the other one asks of its file.
use Rattle.plan_base.proofs.Common.{◌≡◌, ℕ, ◌⊎◌, inl, inr, List, Option, Some, None, subst}
use Rattle.hierarchy.specs.{HierarchyLists}
use Rattle.hierarchy_file.specs.{SpellHierarchy}
use Rattle.mode_network.specs.NetworkLists.{NetworkLists}
use Rattle.run_steps.specs.{declared.limits.Limits.Limits, WritesText, IsHeld}
use Rattle.run_steps.specs.declared.outcome.FileRole.TheVariants as role
use Rattle.hierarchy_commands.specs.{IsContraction, OnHierarchyIfNamed}
use Rattle.hierarchy_commands.proofs.CompleteLemmas.{check_completes}
use Rattle.answer_commands.specs.{SpellsValid, IsCertificateFor, IsCertified}
use Rattle.answer_commands.proofs.CompleteLemmas.{verify_completes}
use Rattle.late_commands.specs.{SpellsValidLate, IsLateCertificateFor, IsLateCertified}
use Rattle.late_commands.proofs.CompleteLemmas.{verify_latest_completes}
use Rattle.latest_departure.specs.{IsWithinLateLabels}
use Rattle.journey.specs.{IsRefusedBlock, stopped_block}
use Rattle.planning.specs.{IsWithinLabels}
use Rattle.promises.specs.{IsBlockOf, WhatContractWritesCheckAccepts, WhatCertifyPrintsVerifyAccepts, WhatCertifyLatestPrintsVerifyLatestAccepts}
use Rattle.promises.proofs.RunLemmas.{same_output, region_done, region_again, named_done}

pub what_contract_writes_check_accepts : WhatContractWritesCheckAccepts
what_contract_writes_check_accepts caps files later region name out keep run kept =
    let read = region_done files caps region (λ n. WritesText (IsContraction n keep)) run.old run.new run.told run.said in
    let wrote = read.says in
    let h = wrote.is.hierarchy in
    let same = same_output run.old.out run.new.out run.before wrote.out out run.stood wrote.appended run.stands in
    let spells = subst (λ (o : List ℕ). SpellHierarchy o h) same wrote.is.spells in
    check_completes caps later region name
    (region_again files later caps region _ run.old run.new read kept.region_stays _
    (record { bytes = out; held = kept.held; within = kept.within; fine = (h, spells, wrote.is.contracted.sound, tt) }))

-- what is written for a line is a block, or a valid certificate
written_for : (n : NetworkLists) (h : Option HierarchyLists) (limits : Limits) (query out : List ℕ) → IsCertified n h limits query out → IsBlockOf query out ⊎ SpellsValid n h out
written_for n h limits query out (inl (count, large, block)) = inl (_, block)
written_for n h limits query out (inr (small, is)) = by_labels limits.labels is
  where
    by_kind : IsRefusedBlock n query out ⊎ IsCertificateFor n h query out → IsBlockOf query out ⊎ SpellsValid n h out
    by_kind (inl refused) = inl (_, refused.block_is)
    by_kind (inr certificate) = inr (certificate.claim, certificate.text, certificate.valid)

    by_labels : (labels : Option ℕ)
        → IsWithinLabels n h labels query (λ most. out ≡ stopped_block query most) (IsRefusedBlock n query out ⊎ IsCertificateFor n h query out)
        → IsBlockOf query out ⊎ SpellsValid n h out
    by_labels None is = by_kind is
    by_labels (Some most) (inl (stopped, block)) = inl (_, block)
    by_labels (Some most) (inr (within, is)) = by_kind is

pub what_certify_prints_verify_accepts : WhatCertifyPrintsVerifyAccepts
what_certify_prints_verify_accepts caps limits files later region query name out hierarchy run kept stays =
    let rest = λ (n : NetworkLists). OnHierarchyIfNamed n hierarchy (λ h. WritesText (IsCertified n h limits query)) in
    let read = region_done files caps region rest run.old run.new run.told run.said in
    let n = read.network in
    let P = λ (h : Option HierarchyLists). IsHeld role.Certificate later name (SpellsValid n h) in
    let both = named_done files later n hierarchy (λ h. WritesText (IsCertified n h limits query)) P _ run.new read.tells stays read.says in
    let wrote = both.says in
    let same = same_output run.old.out run.new.out run.before wrote.out out run.stood wrote.appended run.stands in
    let is = subst (IsCertified n both.hierarchy limits query) same wrote.is in
    elim (written_for n both.hierarchy limits query out is) [
      | inl block ↦ inl block
      | inr valid ↦ inr (verify_completes caps later region name hierarchy
          (region_again files later caps region rest run.old run.new read kept.region_stays _
          (both.again (record { bytes = out; held = kept.held; within = kept.within; fine = valid }))))
    ]

-- ---- the latest departure

-- what is written for a line is a block, or a valid late certificate
late_written_for : (n : NetworkLists) (limits : Limits) (query out : List ℕ) → IsLateCertified n limits query out → IsBlockOf query out ⊎ SpellsValidLate n out
late_written_for n limits query out (inl (count, large, block)) = inl (_, block)
late_written_for n limits query out (inr (small, is)) = by_labels limits.labels is
  where
    by_kind : IsRefusedBlock n query out ⊎ IsLateCertificateFor n query out → IsBlockOf query out ⊎ SpellsValidLate n out
    by_kind (inl refused) = inl (_, refused.block_is)
    by_kind (inr certificate) = inr (certificate.claim, certificate.text, certificate.of.valid)

    by_labels : (labels : Option ℕ)
        → IsWithinLateLabels n labels query (λ most. out ≡ stopped_block query most) (IsRefusedBlock n query out ⊎ IsLateCertificateFor n query out)
        → IsBlockOf query out ⊎ SpellsValidLate n out
    by_labels None is = by_kind is
    by_labels (Some most) (inl (stopped, block)) = inl (_, block)
    by_labels (Some most) (inr (within, is)) = by_kind is

pub what_certify_latest_prints_verify_latest_accepts : WhatCertifyLatestPrintsVerifyLatestAccepts
what_certify_latest_prints_verify_latest_accepts caps limits files later region query name out run kept =
    let read = region_done files caps region (λ n. WritesText (IsLateCertified n limits query)) run.old run.new run.told run.said in
    let n = read.network in
    let wrote = read.says in
    let same = same_output run.old.out run.new.out run.before wrote.out out run.stood wrote.appended run.stands in
    let is = subst (IsLateCertified n limits query) same wrote.is in
    elim (late_written_for n limits query out is) [
      | inl block ↦ inl block
      | inr valid ↦ inr (verify_latest_completes caps later region name
          (region_again files later caps region _ run.old run.new read kept.region_stays _ (record { bytes = out; held = kept.held; within = kept.within; fine = valid })))
    ]
