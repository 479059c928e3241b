pub mod Masks
pub mod Multiples
pub mod PagesLemmas
