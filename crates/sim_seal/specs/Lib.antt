pub mod Cuts
pub mod Seals
pub mod CutLaws
pub mod SealLaws
