-- Worked values of parsed arguments.
use Rattle.std.proofs.Common.{◌≡◌, pos, negsuc, true, false, [], ◌∷◌, Some, None, map, replicate, refl}
use Rattle.std.specs.Prelude.{codes}
use Rattle.design_edits.specs.declared.axis.Axis.TheVariants.{X, Y}
use Rattle.design_edits.specs.declared.motion.Motion.TheVariants as motion
use Rattle.command_words.specs.Changes.{cut, move, split, thread}
use Rattle.command_words.specs.Requests.{parsed_request, check, convert, double, edit, hoop, migrate, route, sample, show, trace}
use Rattle.command_words.specs.Arguments.{parsed_edit, parsed_edits, sample_number, hoop_side}
use Rattle.command_words.specs.RefitFlags.{refit_changes, parsed_refits}

-- a shift by two numbers from -60,000 to 60,000
pub known_parsed_edit : (parsed_edit (codes "shift=12,-7") ≡ Some (move (motion.Shift (pos 12) (negsuc 6))))
    × (parsed_edit (codes "shift=-60000,60000") ≡ Some (move (motion.Shift (negsuc 59999) (pos 60000))))
    × (parsed_edit (codes "shift=0,60001") ≡ None)
    × (parsed_edit (codes "shift=-60001,0") ≡ None)
    × (parsed_edit (codes "shift=1") ≡ None)
    × (parsed_edit (codes "shift=1,2,3") ≡ None)
    -- a turn by 0 to 3 quarters
    × (parsed_edit (codes "turn=0") ≡ Some (move (motion.Turn 0)))
    × (parsed_edit (codes "turn=3") ≡ Some (move (motion.Turn 3)))
    × (parsed_edit (codes "turn=4") ≡ None)
    × (parsed_edit (codes "turn=-1") ≡ None)
    -- a mirroring of x or of y
    × (parsed_edit (codes "mirror=x") ≡ Some (move (motion.Mirror X)))
    × (parsed_edit (codes "mirror=y") ≡ Some (move (motion.Mirror Y)))
    × (parsed_edit (codes "mirror=z") ≡ None)
    -- a thread from 0 to 255 for the block of a place from 1 to 255
    × (parsed_edit (codes "thread=1,0") ≡ Some (thread 1 0))
    × (parsed_edit (codes "thread=255,255") ≡ Some (thread 255 255))
    × (parsed_edit (codes "thread=0,1") ≡ None)
    × (parsed_edit (codes "thread=256,1") ≡ None)
    × (parsed_edit (codes "thread=1,256") ≡ None)
known_parsed_edit = (refl, refl, refl, refl, refl, refl, refl, refl, refl, refl, refl, refl, refl, refl, refl, refl, refl, refl)

-- no value, no name, no equals sign, two of them, and a name that no edit has
pub known_refused_edits : (parsed_edit (codes "turn=") ≡ None)
    × (parsed_edit (codes "shift=,") ≡ None)
    × (parsed_edit (codes "=1") ≡ None)
    × (parsed_edit (codes "turn1") ≡ None)
    × (parsed_edit (codes "turn==1") ≡ None)
    × (parsed_edit (codes "mirror=x=") ≡ None)
    × (parsed_edit (codes "turns=1") ≡ None)
known_refused_edits = (refl, refl, refl, refl, refl, refl, refl)

-- Arguments parse to edits in their order, if each of them is an edit.
pub known_parsed_edits : (parsed_edits [] ≡ Some [])
    × (parsed_edits (codes "turn=1" ∷ codes "mirror=x" ∷ []) ≡ Some (move (motion.Turn 1) ∷ move (motion.Mirror X) ∷ []))
    × (parsed_edits (codes "turn=1" ∷ codes "mirror=z" ∷ codes "turn=2" ∷ []) ≡ None)
known_parsed_edits = (refl, refl, refl)

-- `--split` and `--cut`, each at most once, in any order: stitches are split before floats are cut
pub known_no_refits : parsed_refits [] ≡ Some (false, false)
known_no_refits = refl

pub known_split : parsed_refits (codes "--split" ∷ []) ≡ Some (true, false)
known_split = refl

pub known_cut : parsed_refits (codes "--cut" ∷ []) ≡ Some (false, true)
known_cut = refl

pub known_split_first : parsed_refits (codes "--split" ∷ codes "--cut" ∷ []) ≡ Some (true, true)
known_split_first = refl

pub known_cut_first : parsed_refits (codes "--cut" ∷ codes "--split" ∷ []) ≡ Some (true, true)
known_cut_first = refl

pub known_split_twice : parsed_refits (codes "--split" ∷ codes "--split" ∷ []) ≡ None
known_split_twice = refl

pub known_cut_twice : parsed_refits (codes "--cut" ∷ codes "--cut" ∷ []) ≡ None
known_cut_twice = refl

pub known_three_refits : parsed_refits (codes "--split" ∷ codes "--cut" ∷ codes "--split" ∷ []) ≡ None
known_three_refits = refl

pub known_other_refit : parsed_refits (codes "--Split" ∷ []) ≡ None
known_other_refit = refl

pub known_refit_changes : (refit_changes true true ≡ split ∷ cut ∷ [])
    × (refit_changes true false ≡ split ∷ [])
    × (refit_changes false true ≡ cut ∷ [])
known_refit_changes = (refl, refl, refl)

-- a side from 1 to 60,000, without a sign
pub known_hoop_side : (hoop_side (codes "1") ≡ Some 1)
    × (hoop_side (codes "60000") ≡ Some 60000)
    × (hoop_side (codes "0") ≡ None)
    × (hoop_side (codes "60001") ≡ None)
    × (hoop_side (codes "-1") ≡ None)
known_hoop_side = (refl, refl, refl, refl, refl)

-- `route` has three names
pub known_parsed_request : (parsed_request (codes "route" ∷ codes "a.rw" ∷ codes "b.dst" ∷ codes "c" ∷ [])
    ≡ Some (route (codes "a.rw") (codes "b.dst") (codes "c")))
    × (parsed_request (codes "route" ∷ codes "a.rw" ∷ codes "b.dst" ∷ []) ≡ None)
    × (parsed_request (codes "route" ∷ codes "a.rw" ∷ codes "b.dst" ∷ codes "c" ∷ codes "d" ∷ []) ≡ None)
    -- `convert` has two names and refits
    × (parsed_request (codes "convert" ∷ codes "a.dst" ∷ codes "b.exp" ∷ [])
    ≡ Some (convert (codes "a.dst") (codes "b.exp") false false))
known_parsed_request = (refl, refl, refl, refl)

pub known_convert_cut : parsed_request (codes "convert" ∷ codes "a.dst" ∷ codes "b.exp" ∷ codes "--cut" ∷ [])
    ≡ Some (convert (codes "a.dst") (codes "b.exp") false true)
known_convert_cut = refl

pub known_requests : (parsed_request (codes "convert" ∷ codes "a.dst" ∷ []) ≡ None)
    × (parsed_request (codes "convert" ∷ codes "a.dst" ∷ codes "b.exp" ∷ codes "c.pes" ∷ []) ≡ None)
    -- `show` has one name
    × (parsed_request (codes "show" ∷ codes "a.dst" ∷ []) ≡ Some (show (codes "a.dst")))
    × (parsed_request (codes "show" ∷ []) ≡ None)
    × (parsed_request (codes "show" ∷ codes "a.dst" ∷ codes "b.dst" ∷ []) ≡ None)
    -- `edit` has two names and one edit or more
    × (parsed_request (codes "edit" ∷ codes "a.dst" ∷ codes "b.exp" ∷ codes "turn=1" ∷ codes "thread=1,20" ∷ [])
    ≡ Some (edit (codes "a.dst") (codes "b.exp") (codes "turn=1" ∷ codes "thread=1,20" ∷ [])))
    -- each edit as it is written
    × (parsed_request (codes "edit" ∷ codes "a.dst" ∷ codes "b.exp" ∷ codes "turn=01" ∷ [])
    ≡ Some (edit (codes "a.dst") (codes "b.exp") (codes "turn=01" ∷ [])))
    × (parsed_request (codes "edit" ∷ codes "a.dst" ∷ codes "b.exp" ∷ []) ≡ None)
    × (parsed_request (codes "edit" ∷ codes "a.dst" ∷ codes "b.exp" ∷ codes "turn=1" ∷ codes "c.pes" ∷ []) ≡ None)
    -- `hoop` has a name, a width and a height
    × (parsed_request (codes "hoop" ∷ codes "a.dst" ∷ codes "1000" ∷ codes "900" ∷ [])
    ≡ Some (hoop (codes "a.dst") 1000 900))
    × (parsed_request (codes "hoop" ∷ codes "a.dst" ∷ codes "1000" ∷ []) ≡ None)
    × (parsed_request (codes "hoop" ∷ codes "a.dst" ∷ codes "1000" ∷ codes "900" ∷ codes "800" ∷ []) ≡ None)
    -- No argument, and arguments of no command.
    × (parsed_request [] ≡ None)
    × (parsed_request (codes "samples" ∷ codes "1" ∷ codes "a.rw" ∷ []) ≡ None)
    × (parsed_request (codes "Show" ∷ codes "a.dst" ∷ []) ≡ None)
    -- A check has exactly three file names, in this order.
    × (parsed_request (codes "check" ∷ codes "a.rw" ∷ codes "b.dst" ∷ codes "c" ∷ [])
    ≡ Some (check (codes "a.rw") (codes "b.dst") (codes "c")))
    × (parsed_request (codes "check" ∷ codes "a.rw" ∷ codes "b.dst" ∷ []) ≡ None)
    × (parsed_request (codes "check" ∷ codes "a" ∷ codes "b" ∷ codes "c" ∷ codes "d" ∷ []) ≡ None)
    -- a sample has a number from 1 to 999,999, which may have zeros in front
    × (parsed_request (codes "sample" ∷ codes "0075" ∷ codes "s.rw" ∷ []) ≡ Some (sample 75 (codes "s.rw")))
known_requests =
    (refl, refl, refl, refl, refl, refl, refl, refl, refl, refl, refl, refl, refl, refl, refl, refl, refl, refl, refl)

pub known_sample_number : (sample_number (codes "999999") ≡ Some 999999)
    × (sample_number (codes "1000000") ≡ None)
    × (sample_number (codes "0") ≡ None)
known_sample_number = (refl, refl, refl)

pub known_sample_turned : (parsed_request (codes "sample" ∷ codes "s.rw" ∷ codes "75" ∷ []) ≡ None)
    × (parsed_request (codes "sample" ∷ codes "75" ∷ []) ≡ None)
    -- a migration and a tracing have two names, a double run has the three of a route
    × (parsed_request (codes "migrate" ∷ codes "a" ∷ codes "b" ∷ []) ≡ Some (migrate (codes "a") (codes "b")))
    × (parsed_request (codes "trace" ∷ codes "a" ∷ codes "b" ∷ []) ≡ Some (trace (codes "a") (codes "b")))
    × (parsed_request (codes "double" ∷ codes "a" ∷ codes "b" ∷ codes "c" ∷ [])
    ≡ Some (double (codes "a") (codes "b") (codes "c")))
known_sample_turned = (refl, refl, refl, refl, refl)

-- Any other number of arguments is no request.
pub known_other_counts : (map parsed_request (
    (codes "migrate" ∷ codes "a" ∷ [])
    ∷ (codes "migrate" ∷ codes "a" ∷ codes "b" ∷ codes "c" ∷ [])
    ∷ (codes "trace" ∷ codes "a" ∷ [])
    ∷ (codes "trace" ∷ codes "a" ∷ codes "b" ∷ codes "c" ∷ [])
    ∷ (codes "double" ∷ codes "a" ∷ codes "b" ∷ [])
    ∷ (codes "double" ∷ codes "a" ∷ codes "b" ∷ codes "c" ∷ codes "d" ∷ [])
    ∷ (codes "sample" ∷ codes "7" ∷ codes "a" ∷ codes "b" ∷ []) ∷ []) ≡ replicate 7 None)
    -- An empty argument is no file name, at any position.
    × (map parsed_request (
    (codes "route" ∷ [] ∷ codes "b" ∷ codes "c" ∷ [])
    ∷ (codes "route" ∷ codes "a" ∷ [] ∷ codes "c" ∷ [])
    ∷ (codes "route" ∷ codes "a" ∷ codes "b" ∷ [] ∷ [])
    ∷ (codes "check" ∷ [] ∷ codes "b" ∷ codes "c" ∷ [])
    ∷ (codes "check" ∷ codes "a" ∷ [] ∷ codes "c" ∷ [])
    ∷ (codes "check" ∷ codes "a" ∷ codes "b" ∷ [] ∷ [])
    ∷ (codes "double" ∷ [] ∷ codes "b" ∷ codes "c" ∷ [])
    ∷ (codes "double" ∷ codes "a" ∷ [] ∷ codes "c" ∷ [])
    ∷ (codes "double" ∷ codes "a" ∷ codes "b" ∷ [] ∷ [])
    ∷ (codes "convert" ∷ [] ∷ codes "b" ∷ [])
    ∷ (codes "convert" ∷ codes "a" ∷ [] ∷ [])
    ∷ (codes "edit" ∷ [] ∷ codes "b" ∷ codes "turn=1" ∷ [])
    ∷ (codes "edit" ∷ codes "a" ∷ [] ∷ codes "turn=1" ∷ [])
    ∷ (codes "migrate" ∷ [] ∷ codes "b" ∷ [])
    ∷ (codes "migrate" ∷ codes "a" ∷ [] ∷ [])
    ∷ (codes "trace" ∷ [] ∷ codes "b" ∷ [])
    ∷ (codes "trace" ∷ codes "a" ∷ [] ∷ [])
    ∷ (codes "show" ∷ [] ∷ [])
    ∷ (codes "hoop" ∷ [] ∷ codes "10" ∷ codes "9" ∷ [])
    ∷ (codes "sample" ∷ codes "7" ∷ [] ∷ []) ∷ []) ≡ replicate 20 None)
known_other_counts = (refl, refl)
