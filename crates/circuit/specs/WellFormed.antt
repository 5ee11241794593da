-- Lists of well-formed values. Assumes nothing.
use Rattle.std.specs.Prelude.{Bool, true, ◌&&◌, List, [], ◌∷◌}
use Rattle.circuit.specs.Value.{Value, well_formed}

unfoldable pub all_well_formed : List Value → Bool
all_well_formed [] = true
all_well_formed (v ∷ vs) = well_formed v && all_well_formed vs
