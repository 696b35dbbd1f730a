-- What is accepted is an encoding, and encodings are accepted; two files of one book are both its encoding.
use Rattle.std.proofs.Common.{sym, ◌∙◌}
use Rattle.meaning.proofs.Sound.{sound}
use Rattle.meaning.proofs.Complete.{complete}
use Rattle.meaning.proofs.reading_is_exact.Goals as goal

pub returns : goal.returns
returns c =
    record { sound = sound; complete = complete; single = λ bs cs b fit fits one other. (sound bs b fit one).1 ∙ sym (sound cs b fits other).1 }
