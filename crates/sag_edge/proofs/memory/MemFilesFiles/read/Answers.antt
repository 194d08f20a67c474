use Rattle.std.proofs.Common.{◌≡◌, Some, sym, ◌∙◌, refl, arith}
use Rattle.sag_edge.specs.Contents.{bytes_at}
use Rattle.sag_edge.proofs.ReadLemmas.{next_bytes, next_end}
use Rattle.sag_edge.proofs.memory.MemFilesFiles.read.Goals as goal

pub returns-in-Some-clause-ok : goal.returns-in-Some-clause-ok
returns-in-Some-clause-ok c =
    let is : c.args.self.now.current ≡ Some c.in-Some.name = sym c.take.ensures.value ∙ c.in-Some.is in
    let whole = bytes_at c.args.self.now.files.items c.in-Some.name in
    rw is (record {
      current = refl;
      blamed = refl;
      bytes = next_bytes whole c.give_from-count.new.into c.args.self.now.place _ (rw c.deref-in-Some.ensures.value at c.give_from-count.ensures.bytes);
      end = next_end whole c.give_from-count.new.into c.args.self.now.place _ c.args.self.now.most (rw c.deref-in-Some.ensures.value at c.give_from-count.ensures.count) (omega arith);
    })
