pub mod LexemeLaws
pub mod Steps
pub mod FoundLaws
pub mod PartLaws
pub mod TextLaws
pub mod Underscores
pub mod LeafRules
pub mod LeafLaws
