pub mod PartingLaws
