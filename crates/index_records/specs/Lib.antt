-- What each file is stands at its head.
pub mod Start
pub mod Choose
pub mod BinarySearch
pub mod Search
pub mod Judge
pub mod InRange
pub mod Due
pub mod JudgeLaws
