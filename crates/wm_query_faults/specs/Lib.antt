pub mod Items
pub mod Lacking
pub mod Asking
