-- What a scale means. Assumes nothing.
use Rattle.meaning.specs.Levels.{Order, Meets}
use Rattle.levels.specs.Tables.{table_order, table_meets}
use Rattle.levels.specs.declared.scale.Scale.{Scale}

abbrev pub scaled : Scale → Order
scaled s = table_order s.count s.pairs

abbrev pub scaled_meets : Scale → Meets
scaled_meets s = table_meets s.count s.pairs
