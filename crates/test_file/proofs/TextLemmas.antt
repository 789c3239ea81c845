pub mod StartLaws
pub mod AnswerLaws
pub mod SomeLaws
pub mod FaultLaws
