pub mod TotalLemmas
pub mod ItemLemmas
pub mod GroupLemmas
pub mod CountLemmas
pub mod HeldLemmas
pub mod LeftLemmas
pub mod BareLemmas
pub mod NarrowLemmas
