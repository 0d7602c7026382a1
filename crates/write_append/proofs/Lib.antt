pub mod KeptLaws
pub mod RisingLaws
