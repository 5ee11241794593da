-- `sheet::check_items` meets its contract. The loop's invariant: the scan of the items passed goes on, and the arrays hold their offsets and levels.
-- Assumes nothing.
use mathlib.Core.Path.{◌≡◌}
use Rattle.layout.specs.Read.{going, scan}
use Rattle.layout.specs.Opened.{offsets_of, levels_of}
use Rattle.field.specs.Bytes.{over}
use Rattle.sheet.specs.Check.{sound_items}
use Rattle.sheet.proofs.check_items.Given as goal

abbrev pub invariant-loop-i : goal.invariant-loop-i
invariant-loop-i l = record {
  goes_on : scan l.s l.opened.edition l.i ≡ going l.at (sound_items l.s l.opened.edition l.i);
  found : l.offsets ≡ over (offsets_of (sound_items l.s l.opened.edition l.i)) l.initial.offsets;
  leveled : l.levels ≡ over (levels_of (sound_items l.s l.opened.edition l.i)) l.initial.levels;
}
