use Rattle.std.proofs.Common.{sym, ◌∙◌}
use Rattle.drawing_picture.proofs.BandLemmas.{band_ahead, band_back}
use Rattle.drawing_picture.proofs.bands.put_cut.Goals as goal

pub returns-then-holds : goal.returns-then-holds
returns-then-holds c = band_ahead c.args.text.now c.args.number c.args.cut.now c.args.e c.args.ways.ahead.now c.args.ways.back.now _ _
    (sym c.holds.ensures ∙ c.if-holds.true) (sym c.holds-last.ensures ∙ c.if-last.false) c.in_ok-put_band.ensures c.beyond.ensures

pub returns-then-last-2 : goal.returns-then-last-2
returns-then-last-2 c = band_back c.args.text.now c.args.number c.args.cut.now c.args.e c.args.ways.ahead.now c.args.ways.back.now _ _
    (sym c.holds.ensures ∙ c.if-holds.false) (sym c.holds-last.ensures ∙ c.if-last-2.true) c.in_ok-put_band-2.ensures
    c.beyond-then-last-2.ensures
