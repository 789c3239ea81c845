pub mod MarkLaws
mod ExpressionRows
