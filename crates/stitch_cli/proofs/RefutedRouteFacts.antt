-- What the headline keeps out: threads, certificates and files of the square that its records refuse.
use Rattle.std.proofs.Common.{◌≡◌, ℕ, true, List, [], ◌∷◌, ◌++◌, Option, Some, None, Ok, bytes_eq, codes, if◌then◌else◌, arith, sym, subst}
use Rattle.std.proofs.lemmas.List.Elements.{All-head}
use Rattle.dst_codec.specs.Format.{dst_meaning}
use Rattle.drawing_text.specs.DrawingText.{drawing_of}
use Rattle.certificate_text.specs.ReadCertificates.{cert_of}
use Rattle.format_traits.specs.declared.loaded.Loaded.{Loaded}
use Rattle.odd_cuts.specs.declared.certificate.PieceCert.{PieceCert}
use Rattle.odd_cuts.specs.declared.cut.Cut.{Cut}
use Rattle.odd_cuts.specs.DrawnCuts.{IsOddOver}
use Rattle.outside_io.specs.Files.{Files}
use Rattle.route_verdict.specs.LeastRedwork.{IsLeastThread}
use Rattle.stitch_cli.specs.Headline.{IsRouteLeft, IsYesRight}
use Rattle.stitch_cli.proofs.RouteLeftFacts.{after, before, header, route_order, yes_order}
use Rattle.stitch_cli.proofs.SquareRoute.{cert, piece, square}

-- A thread without a pass leaves the line out.
pub known_line_left_out : IsLeastThread square piece (record cert { walk = [] }) → ⊥
known_line_left_out is = omega (arith, (is.thread.covered 0 0 (omega arith)).1)

-- The needle points are those of the lines and of what is sewn again.
pub known_retraced_for_nothing : IsLeastThread square piece (record cert { retraced = 4 }) → ⊥
known_retraced_for_nothing is = let five : 5 ≡ 9 = is.penetrations in cc

-- A cut that no line leads out of isn't odd.
abbrev even : Cut
even = record { weight = 1; members = 0 ∷ [] }

pub known_even_cut : IsLeastThread square piece (record cert { cuts = even ∷ [] }) → ⊥
known_even_cut is = let none : 0 ≡ 1 = (All-head (IsOddOver square piece) even [] is.packing.odd).odd in cc

-- The weights of the cuts prove all that is sewn again.
pub known_total_of_nothing : IsLeastThread square piece (record cert { cuts = even ∷ [] }) → ⊥
known_total_of_nothing is = let one : 1 ≡ 0 = is.total in cc

-- Files in which one of the three is another one, or is missing.
abbrev pub with : List ℕ → Option (List ℕ) → Files → Files
with name content files other = if bytes_eq other name then content else files other

missing : (bytes : List ℕ) → None ≡ Some bytes → ⊥
missing bytes is = cc

pub known_no_drawing : IsRouteLeft route_order (with (codes "sq.rw") None before) after → ⊥
known_no_drawing is = missing is.drawing_file is.drawing_held

pub known_no_design : IsRouteLeft route_order before (with (codes "sq.dst") None after) → ⊥
known_no_design is = missing is.design_file is.design_held

pub known_no_certificate : IsRouteLeft route_order before (with (codes "sq.cert") None after) → ⊥
known_no_certificate is = missing is.cert_file is.cert_held

pub known_yes_without_files : (IsYesRight yes_order (with (codes "sq.rw") None after) → ⊥)
    × (IsYesRight yes_order (with (codes "sq.dst") None after) → ⊥)
    × (IsYesRight yes_order (with (codes "sq.cert") None after) → ⊥)
known_yes_without_files = (
  λ is. missing is.drawing_file is.drawing_held,
  λ is. missing is.design_file is.design_held,
  λ is. missing is.cert_file is.cert_held,
)

-- An empty text says no drawing and no certificate, and an empty file is no design.
pub same : (xs ys : List ℕ) → Some xs ≡ Some ys → xs ≡ ys
same xs ys is = cc

no_drawing : (bytes : List ℕ) → [] ≡ bytes → (d : _) → drawing_of bytes ≡ Ok d → ⊥
no_drawing bytes none d is =
    let refused : drawing_of [] ≡ Ok d = subst (λ (b : List ℕ). drawing_of b ≡ Ok d) (sym none) is in cc

no_design : (bytes : List ℕ) → [] ≡ bytes → (l : Loaded) → dst_meaning.reads bytes ≡ Ok l → ⊥
no_design bytes none l is =
    let refused : dst_meaning.reads [] ≡ Ok l = subst (λ (b : List ℕ). dst_meaning.reads b ≡ Ok l) (sym none) is in cc

no_certs : (bytes : List ℕ) → [] ≡ bytes → (certs : List PieceCert) → cert_of bytes ≡ Ok certs → ⊥
no_certs bytes none certs is =
    let refused : cert_of [] ≡ Ok certs = subst (λ (b : List ℕ). cert_of b ≡ Ok certs) (sym none) is in cc

pub known_drawing_unread : IsRouteLeft route_order (with (codes "sq.rw") (Some []) before) after → ⊥
known_drawing_unread is = no_drawing is.drawing_file (same [] is.drawing_file is.drawing_held) is.d is.say.drawn

pub known_design_unread : IsRouteLeft route_order before (with (codes "sq.dst") (Some []) after) → ⊥
known_design_unread is = no_design is.design_file (same [] is.design_file is.design_held) is.loaded is.say.read

pub known_certificate_unread : IsRouteLeft route_order before (with (codes "sq.cert") (Some []) after) → ⊥
known_certificate_unread is = no_certs is.cert_file (same [] is.cert_file is.cert_held) is.certs is.say.certified

pub known_yes_unread : (IsYesRight yes_order (with (codes "sq.rw") (Some []) after) → ⊥)
    × (IsYesRight yes_order (with (codes "sq.dst") (Some []) after) → ⊥)
    × (IsYesRight yes_order (with (codes "sq.cert") (Some []) after) → ⊥)
known_yes_unread = (
  λ is. no_drawing is.drawing_file (same [] is.drawing_file is.drawing_held) is.d is.say.drawn,
  λ is. no_design is.design_file (same [] is.design_file is.design_held) is.loaded is.say.read,
  λ is. no_certs is.cert_file (same [] is.cert_file is.cert_held) is.certs is.say.certified,
)

-- The square's file without its end, of 512 and 24 bytes.
abbrev without_end : List ℕ
without_end = header ++ (0x00 ∷ 0x00 ∷ 0x03 ∷ 0x00 ∷ 0x05 ∷ 0x03 ∷ 0x00 ∷ 0x50 ∷ 0x03 ∷ 0x00 ∷ 0x0a ∷ 0x03 ∷ 0x00 ∷ 0xa0 ∷ 0x03
    ∷ 0x82 ∷ 0x41 ∷ 0x83 ∷ 0x82 ∷ 0x82 ∷ 0x83 ∷ 0x82 ∷ 0x41 ∷ 0x83 ∷ [])

open_file : (bytes : List ℕ) → without_end ≡ bytes → (l : Loaded) → dst_meaning.reads bytes ≡ Ok l → l.ended ≡ true → ⊥
open_file bytes are l is ended =
    let read : dst_meaning.reads without_end ≡ Ok l = subst (λ (b : List ℕ). dst_meaning.reads b ≡ Ok l) (sym are) is in
    no_end l read ended
  where
    no_end : (l : Loaded) → dst_meaning.reads without_end ≡ Ok l → l.ended ≡ true → ⊥
    no_end l read ended = cc

pub known_left_without_end : IsRouteLeft route_order before (with (codes "sq.dst") (Some without_end) after) → ⊥
known_left_without_end is =
    open_file is.design_file (same without_end is.design_file is.design_held) is.loaded is.say.read is.ended
