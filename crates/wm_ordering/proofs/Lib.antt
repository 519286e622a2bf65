pub mod SortLemmas
pub mod KeyLemmas
pub mod NameLemmas
