pub mod FormLemmas
pub mod CivilLemmas
pub mod JoinedLemmas
pub mod TextLemmas
pub mod ReadBack
