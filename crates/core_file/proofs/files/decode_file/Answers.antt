use Rattle.plan_base.proofs.Common.{◌≡◌, ◌∙◌, List, ℕ, Some, Option, sym, ap, arith, option_map, Bor}
use Rattle.core_file.specs.{HasParts, SpellFile, IsRefusedFile, FileLists}
use Rattle.core_file.specs.inside.Parts.{parts_of}
use Rattle.file_records.proofs.NumberLaws.{IsBytes}
use Rattle.core_file.proofs.{FileLaws.parts_take, FileLaws.parts_long, FileLaws.no_parts, FileLaws.alone_refused, FileLaws.ok_of, FileLaws.err_of}
use Rattle.core_file.proofs.files.decode_file.Goals as goal

abbrev seen : Option (Bor (List ℕ) × Bor (List ℕ)) → Option (List ℕ × List ℕ)
seen found = option_map (λ (x : Bor (List ℕ) × Bor (List ℕ)). (x.0.now, x.1.now)) found

-- the parts that were found are those of the bytes
has_parts : (bytes first rest : List ℕ) → IsBytes bytes → parts_of bytes ≡ Some (first, rest) → HasParts bytes first rest
has_parts bytes first rest fits is = parts_take bytes (first, rest) fits is

pub returns-in-Err-clause-none : goal.returns-in-Err-clause-none
returns-in-Err-clause-none c = alone_refused c.args.bytes.now c.in-Err.fault (no_parts c.args.bytes.now (sym c.parts_of.ensures ∙ ap seen c.in-None.is)) c.in-Err.ensures.none

pub both_of-requires : goal.both_of-requires
both_of-requires c =
    let has = has_parts c.args.bytes.now c.in-Some.first.now c.in-Some.rest.now (λ i. omega (arith, c.type_inv.bytes i)) (sym c.parts_of.ensures ∙ ap seen c.in-Some.is) in
    omega (arith, parts_long c.args.bytes.now c.in-Some.first.now c.in-Some.rest.now has)

pub returns-in-Some-clause-found : goal.returns-in-Some-clause-found
returns-in-Some-clause-found c =
    let has = has_parts c.args.bytes.now c.in-Some.first.now c.in-Some.rest.now (λ i. omega (arith, c.type_inv.bytes i)) (sym c.parts_of.ensures ∙ ap seen c.in-Some.is) in
    ok_of (λ text. HasParts text c.in-Some.first.now c.in-Some.rest.now) (λ text (file : FileLists). SpellFile text file.hierarchy file.core) c.args.bytes.now has c.both_of.result c.both_of.ensures.found

pub returns-in-Some-clause-none : goal.returns-in-Some-clause-none
returns-in-Some-clause-none c =
    let has = has_parts c.args.bytes.now c.in-Some.first.now c.in-Some.rest.now (λ i. omega (arith, c.type_inv.bytes i)) (sym c.parts_of.ensures ∙ ap seen c.in-Some.is) in
    err_of (λ text. HasParts text c.in-Some.first.now c.in-Some.rest.now) (λ text. IsRefusedFile text) c.args.bytes.now has c.both_of.result c.both_of.ensures.none
