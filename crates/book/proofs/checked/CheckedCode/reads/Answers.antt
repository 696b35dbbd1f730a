use Rattle.book.proofs.Rightness.{code_small}
use Rattle.book.proofs.checked.CheckedCode.reads.Goals as goal

pub reads-requires : goal.reads-requires
reads-requires c = code_small c.args.self.now.bytes.now c.args.self.now.right
