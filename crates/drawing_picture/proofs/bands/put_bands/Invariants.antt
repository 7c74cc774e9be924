use Rattle.std.proofs.Common.{◌≡◌, ◌++◌, drop}
use Rattle.drawing_picture.proofs.Names.{flat_map, bands_from, band_text}
use Rattle.drawing_picture.proofs.bands.put_bands.Given as goal

-- the bands so far, and those of the cuts that are left
abbrev pub invariant-loop-number : goal.invariant-loop-number
invariant-loop-number l = l.text ++ flat_map band_text (bands_from l.number (drop l.number l.cuts) l.e l.free.ahead.now l.free.back.now)
    ≡ l.fn.text ++ flat_map band_text (bands_from 0 l.cuts l.e l.ways.ahead.now l.ways.back.now)
