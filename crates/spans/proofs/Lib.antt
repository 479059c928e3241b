pub mod ClearingLemmas
