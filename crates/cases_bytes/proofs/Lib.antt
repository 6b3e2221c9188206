pub mod Useless
pub mod StoredLaws
pub mod AnswersLaws
pub mod CasesLaws
