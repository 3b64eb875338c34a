mod CheckLaws
pub mod AnswerLaws
