pub mod CountLaws
pub mod RangeLaws
pub mod SetsLaws
mod Bits
mod Lowest
mod Swept
mod Within
