pub mod InOrder
pub mod Carrying
pub mod Sides
pub mod Errors
