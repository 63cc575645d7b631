pub mod OverflowedValues
pub mod RisingValues
pub mod StepWrites
