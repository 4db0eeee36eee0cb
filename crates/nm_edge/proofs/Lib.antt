pub mod Packing
pub mod RangeBits
pub mod RangeWords
pub mod Words
