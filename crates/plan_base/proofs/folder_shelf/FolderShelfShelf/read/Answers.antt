use Rattle.plan_base.proofs.Common.{◌+◌}
use Rattle.plan_base.proofs.DiskLemmas.{passed_on, rest_behind, rest_of_path}
use Rattle.plan_base.proofs.folder_shelf.FolderShelfShelf.read.Goals as goal

pub invariant_of-self-in-Ok-read_from : goal.invariant_of-self-in-Ok-read_from
invariant_of-self-in-Ok-read_from g c =
    let told = g.D.Disk.holds c.args.self.now.disk in
    let remaining = g.D.File.Read.remaining in
    let o = c.in-Ok.opened in
    let n = c.in-Ok-read_from.n in
    let name = c.args.name.now in
    record {
      goes_on = passed_on remaining told o.path (o.at + n) c.read_from.new.file c.passed.result c.passed.ensures
          (rest_of_path told name (o.at + n) (remaining c.read_from.new.file) o.path c.in-Ok.ensures.path
          (rw c.in-Ok.ensures.at (rest_behind c.read_from.new.into n c.in-Ok-read_from.ensures.bound.0 name c.args.from (remaining o.file) (remaining c.read_from.new.file) c.in-Ok-read_from.ensures.bytes.0 told c.in-Ok.ensures.rest)));
    }
