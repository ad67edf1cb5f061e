pub mod CountLaws
pub mod ExpressionLaws
pub mod KeywordLaws
pub mod PatternLaws
pub mod FieldLaws
pub mod ClauseLaws
pub mod SuffixLaws
