-- `day_main::main` lends what `show_day` asks for. Assumes nothing.
use native.Mathlib.Omega.{arith}
use Rattle.layout.specs.Layout.{most_items, item_limit}
use Rattle.day_main.proofs.main.Goals as goal

pub show_day-requires : goal.show_day-requires
unfolding most_items item_limit
show_day-requires c =
    let s = c.load_files-s.ensures.sheet in
    let d = c.load_files-s.ensures.log in
    record {
      sheet_fits = omega (arith, s.0, s.1);
      log_fits = omega (arith, d.0, d.1);
      index_room_is = omega arith;
      table_room_is = omega arith;
      output_room_is = omega arith;
    }
