-- The list keeps the forbidden ones among all flows that could be, which stand in order.
use Rattle.meaning.proofs.flows_are_listed.Goals as goal
use Rattle.meaning.proofs.Listed.{listed, sound_empty, empty_sound}

pub returns : goal.returns
returns c = record { listed = listed; emptied = λ o b few. (sound_empty o b few, empty_sound o b few) }
