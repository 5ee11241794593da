-- What the code's marks and cells are in the terms of the definitions. Assumes nothing.
use Rattle.circuit.specs.Table as circuit
use Rattle.value.specs.Meaning.{meaning}
use Rattle.table.specs.declared.Mark.{Mark}
use Rattle.table.specs.declared.Mark.TheVariants.{Unmarked, Refresh, Notice}
use Rattle.table.specs.declared.Cell.{Cell}
use Rattle.table.specs.declared.Cell.TheVariants.{Unk, Held}

abbrev pub mark_meaning : Mark → circuit.Mark
mark_meaning Unmarked = circuit.unmarked
mark_meaning Refresh = circuit.refresh
mark_meaning Notice = circuit.notice

abbrev pub cell_meaning : Cell → circuit.Cell
cell_meaning (Unk noticed) = circuit.unk noticed
cell_meaning (Held v m) = circuit.held (meaning v) (mark_meaning m)
