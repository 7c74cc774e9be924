-- Definitions of a lower crate that public clauses cite.
pub use Rattle.odd_cuts.specs.Certificates
-- Read this one first: the text of a certificate.
pub mod CertificateTexts
pub mod CertificateLines
pub mod ReadCertificates
