pub mod Catalog
pub mod Named
