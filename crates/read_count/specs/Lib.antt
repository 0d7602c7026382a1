-- What each file is stands at its head.
pub mod Tables
pub mod Evt2Inside
pub mod Evt3Inside
pub mod Evt3Step
pub mod Count
pub mod Counting
pub mod Passing
pub mod Loops
