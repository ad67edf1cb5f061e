pub mod ReaderLaws
pub mod AnswerLaws
pub mod Demands
pub mod Marked
pub mod Comments
pub mod RowCounts
pub mod SpanEnds
pub mod FieldsFit
