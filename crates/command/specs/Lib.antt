pub mod MadeTexts
pub mod LastLine
pub mod Regression
pub mod CommandWords
pub mod Reading
pub mod Answer
pub mod Process
pub mod OneAnswer
