pub mod OpenCallLemmas
pub mod StatementLemmas
pub mod BlocksLemmas
pub mod FlowLemmas
pub mod StatesLemmas
