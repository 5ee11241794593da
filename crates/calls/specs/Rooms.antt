-- The sizes of scratch, and which of them a sheet gets: the least that has the room that its items need. Assumes nothing.
use Rattle.std.specs.Prelude.{ℕ, cond, leb}
use Rattle.calls.specs.declared.Size.{Size}
use Rattle.calls.specs.declared.Size.TheVariants.{Small, Medium, Large}

-- for how many items they have room
abbrev pub room_of : Size → ℕ
room_of Small = 128
room_of Medium = 1024
room_of Large = 4096

abbrev pub least_for : ℕ → Size
least_for room = cond (leb room (room_of Small)) Small (cond (leb room (room_of Medium)) Medium Large)
