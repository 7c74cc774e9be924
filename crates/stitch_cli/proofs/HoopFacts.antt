-- Worked values of the results of `hoop`.
use Rattle.std.proofs.Common.{◌++◌, None, refl}
use Rattle.std.specs.Prelude.{codes}
use Rattle.stitch_cli.proofs.Names.{newline, hoop_fitted, Makes, Refuses, report_product}
use Rattle.hoop_check.specs.declared.fitting.Fit.TheVariants as fit
use Rattle.program_texts.specs.DesignTexts.{too_large_text}

-- A design that fits is reported, and one that doesn't is refused with the excess.
pub known_upright : Makes (hoop_fitted fit.Upright) None (report_product (codes "fits upright" ++ newline))
known_upright = refl

pub known_turned : Makes (hoop_fitted fit.Turned) None (report_product (codes "fits turned" ++ newline))
known_turned = refl

pub known_too_large : Refuses (hoop_fitted (fit.No 40 7)) None (too_large_text 40 7)
known_too_large = refl
