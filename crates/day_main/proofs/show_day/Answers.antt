-- `day_main::show_day` meets its contract: what is lent is enough for the whole text. Assumes nothing.
use Rattle.day_meaning.proofs.Room.{day_shown}
use Rattle.day_main.proofs.show_day.Goals as goal

pub returns : goal.returns
returns c = (day_shown c.requires (λ i. (c.type_inv.log i).fits) c.run_day-n.ensures).0
