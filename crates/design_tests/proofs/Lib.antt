pub mod ElaborationLemmas
