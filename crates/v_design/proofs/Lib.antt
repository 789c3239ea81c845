pub mod StepLaws
pub mod AnswerLaws
pub mod FaultLaws
pub mod SomeLaws
