pub mod Code
pub mod OpenCall
pub mod Statement
pub mod Blocks
pub mod Flow
pub mod States
