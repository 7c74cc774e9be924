use Rattle.outside_io.proofs.EntryPlaces.{content_set, found_here}
use Rattle.outside_io.proofs.entries.make_file.Goals as goal

pub returns-in-Some-clause-made : goal.returns-in-Some-clause-made
returns-in-Some-clause-made c =
    content_set _ _ _ _ _ _ _ c.deref.ensures.value c.in-Some.ensures.some c.index_mut-entry.ensures.value c.make.ensures

pub returns-in-Some-clause-has_room : goal.returns-in-Some-clause-has_room
returns-in-Some-clause-has_room c = rw (found_here _ _ _ _ _ c.deref.ensures.value c.in-Some.ensures.some c.index_mut-entry.ensures.value)
