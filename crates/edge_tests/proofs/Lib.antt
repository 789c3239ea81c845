pub mod PortLemmas
pub mod KernelLemmas
