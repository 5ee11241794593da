-- What the fresh office is fed of a list of calls, and what it then holds. Assumes nothing.
use Rattle.std.specs.Prelude.{List, [], ◌∷◌, ◌++◌}
use Rattle.circuit.specs.Sheet.{Sheet, Entries}
use Rattle.circuit.specs.Table.{Table}
use Rattle.circuit.specs.Call.{Call}
use Rattle.circuit.specs.Calls.{perform, postings_made}
use Rattle.circuit.specs.Fresh.{Event, fed, hear_all}

-- of a list of calls on the table T: what it is fed of each, by the postings that the call made
unfoldable pub events : Sheet → Table → List Call → List Event
events S T [] = []
events S T (c ∷ cs) = fed c (postings_made S T c) ++ events S (perform S T c).table cs

-- the entries E, after a list of calls on the table T
abbrev pub fresh_run : Sheet → Entries → Table → List Call → Entries
fresh_run S E T cs = hear_all S E (events S T cs)
