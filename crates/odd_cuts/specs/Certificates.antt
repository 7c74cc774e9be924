-- Certificates that a text can represent. Indexes of lines and junctions count from 0.
use Rattle.std.specs.Prelude.{◌≢◌, ◌+◌, ◌<◌, ◌^◌, List, [], All, map}
use Rattle.odd_cuts.specs.declared.certificate.PieceCert.{PieceCert}
use Rattle.odd_cuts.specs.declared.cut.Cut.{Cut}
use Rattle.odd_cuts.specs.Packings.{IsPlainCut}
use Rattle.line_graph.specs.declared.pass.Pass.{Pass}

-- The walks of the certificates of pieces.
abbrev pub walks_of : List PieceCert → List (List Pass)
walks_of certs = map (λ (cert : PieceCert). cert.walk) certs

-- A piece of a certificate that has a canonical text, which reads back. The walk has a pass, the
-- cuts are plain, and no index is the maximum of 32 bits.
pub record HasCanonicalText (piece : PieceCert) : Type 0 where
  pub some : piece.walk ≢ []
  pub passes : All (λ (pass : Pass). pass.line + 1 < 2 ^ 32) piece.walk
  pub plain : All IsPlainCut piece.cuts
  pub members : All (λ (cut : Cut). All (λ j. j + 1 < 2 ^ 32) cut.members) piece.cuts
