-- Read this one first: what loading a file means.
pub mod Loading
pub mod FoundFiles
pub mod CertificateFiles
