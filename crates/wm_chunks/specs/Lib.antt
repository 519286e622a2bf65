pub mod Rising
pub mod Numbers
