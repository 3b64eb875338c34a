pub mod FactLaws
pub mod PartLaws
pub mod RankLaws
pub mod SourceLaws
