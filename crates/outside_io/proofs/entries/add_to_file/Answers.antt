use Rattle.std.proofs.Common.{arith}
use Rattle.outside_io.proofs.Names.{nat_tests}
use Rattle.outside_io.proofs.EntryPlaces.{bytes_set, found_here}
use Rattle.outside_io.proofs.entries.add_to_file.Goals as goal

pub returns-clause-added : goal.returns-clause-added
returns-clause-added c = bytes_set _ _ _ _ _ _ _ c.deref.ensures.value c.in-Some.ensures.some c.index_mut-entry.ensures.value c.add.ensures

pub returns-clause-fits : goal.returns-clause-fits
returns-clause-fits c =
    let found = found_here _ _ _ _ _ c.deref.ensures.value c.in-Some.ensures.some c.index_mut-entry.ensures.value in
    grind (arith, nat_tests, found, c.fits.ensures, c.if-not-fits.false)

pub returns-then-not-fits-clause-fits : goal.returns-then-not-fits-clause-fits
returns-then-not-fits-clause-fits c =
    let found = found_here _ _ _ _ _ c.deref.ensures.value c.in-Some.ensures.some c.index_mut-entry.ensures.value in
    grind (arith, nat_tests, found, c.fits.ensures, c.if-not-fits.true)
