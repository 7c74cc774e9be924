use Rattle.std.proofs.Common.{◌≡◌, drop, map}
use Rattle.format_traits.proofs.Names.{str_to_ascii_lowercase, ending_index_from}
use Rattle.format_traits.proofs.lookup.find_ending.Given as goal

-- no format before the index has that ending
abbrev pub invariant-loop-index : goal.invariant-loop-index
invariant-loop-index g l =
    ending_index_from 0 (str_to_ascii_lowercase l.ending)
    (map (λ f. (goal.Format-dyn g (f.vtable, f.value)).meaning f.value) l.formats)
    ≡ ending_index_from l.index (str_to_ascii_lowercase l.ending)
    (map (λ f. (goal.Format-dyn g (f.vtable, f.value)).meaning f.value) (drop l.index l.formats))
