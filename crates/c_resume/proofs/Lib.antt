pub mod PromisesLaws
