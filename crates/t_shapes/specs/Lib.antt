pub mod Cursor
pub mod RawTypes
pub mod ReadsTypes
pub mod Raw
pub mod Reads
