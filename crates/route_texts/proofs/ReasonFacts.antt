-- Each text for a failed check, byte by byte.
use Rattle.std.proofs.Common.{◌≡◌, refl}
use Rattle.std.specs.Fmt.{digits}
use Rattle.std.specs.Prelude.{codes}
use Rattle.odd_cuts.specs.declared.faults.CutFault.TheVariants as cut
use Rattle.odd_cuts.specs.declared.faults.WalkFault.TheVariants as walk
use Rattle.route_verdict.specs.declared.verdict.Reason.TheVariants as reason
use Rattle.route_texts.specs.Reasons.{reason_text}

-- each fault of a walk, the piece first
pub known_strange_pass : reason_text (reason.Walk 4 (walk.Stranger 15)) ≡ codes "no: piece 4: pass 15 is not a line of the piece"
unfolding digits
known_strange_pass = refl

pub known_broken : reason_text (reason.Walk 4 (walk.Broken 15))
    ≡ codes "no: piece 4: pass 15 does not start where the one before ends"
unfolding digits
known_broken = refl

pub known_wrong_start : reason_text (reason.Walk 14 walk.WrongStart) ≡ codes "no: piece 14: walk does not begin at its start"
unfolding digits
known_wrong_start = refl

pub known_wrong_end : reason_text (reason.Walk 14 walk.WrongEnd) ≡ codes "no: piece 14: walk does not end at its end"
unfolding digits
known_wrong_end = refl

pub known_open : reason_text (reason.Walk 14 walk.Open) ≡ codes "no: piece 14: walk is not closed"
unfolding digits
known_open = refl

pub known_missing : reason_text (reason.Walk 4 (walk.Missing 15)) ≡ codes "no: piece 4: line 15 is not sewn"
unfolding digits
known_missing = refl

-- The stated cost is printed before the computed one.
pub known_retraced : reason_text (reason.Retraced 4 15 26) ≡ codes "no: piece 4: retraced 15 said, 26 found"
unfolding digits
known_retraced = refl

-- each fault of cuts
pub known_strange_junction : reason_text (reason.Cuts 4 (cut.Stranger 15 26)) ≡ codes "no: piece 4: cut 15 names junction 26"
unfolding digits
known_strange_junction = refl

pub known_even_cut : reason_text (reason.Cuts 4 (cut.EvenCut 15 26)) ≡ codes "no: piece 4: cut 15 holds 26 odd junctions"
unfolding digits
known_even_cut = refl

pub known_overload : reason_text (reason.Cuts 4 (cut.Overload 15 37 26)) ≡ codes "no: piece 4: line 15 carries 37 halves, allowed 26"
unfolding digits
known_overload = refl

pub known_total : reason_text (reason.Cuts 4 (cut.Total 15 26)) ≡ codes "no: piece 4: cuts give 15 halves, needed 26"
unfolding digits
known_total = refl

-- The count of the certificate is first, then that of the drawing.
pub known_counts : reason_text (reason.Pieces 2 31) ≡ codes "no: certificate has 2 pieces, drawing has 31"
unfolding digits
known_counts = refl

-- the first act that differs
pub known_act : reason_text (reason.Acts 107) ≡ codes "no: act 107 differs"
unfolding digits
known_act = refl
