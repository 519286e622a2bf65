pub mod Cataloged
pub mod Hops
