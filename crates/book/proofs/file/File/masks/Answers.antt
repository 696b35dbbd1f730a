use Rattle.std.proofs.Common.{rules}
use Rattle.meaning.specs.Reading.{mask_checked}
use Rattle.book.specs.Plan.{plan}
use Rattle.book.proofs.file.File.masks.Goals as goal

pub returns : goal.returns
returns c = c.through.ensures (mask_checked c.args.self.now.bytes.now (plan c.args.self.now.layout)) (λ d s r h p. search rules)
