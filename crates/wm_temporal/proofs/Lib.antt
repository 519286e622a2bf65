pub mod FreeLaws
pub mod UncoveredLaws
