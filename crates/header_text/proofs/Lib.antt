pub mod TextLaws
pub mod NumberLaws
pub mod SizeLaws
pub mod Examples
pub mod PlaceLaws
