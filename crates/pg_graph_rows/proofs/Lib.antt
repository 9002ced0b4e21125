pub mod AtPlace
pub mod SideBySide
pub mod LastRow
