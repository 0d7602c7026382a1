pub mod DemandThreeC
pub mod Reading
