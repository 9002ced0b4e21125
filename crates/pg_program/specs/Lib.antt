pub mod Coding
pub mod CodingRows
pub mod Computation
pub mod Context
pub mod OwnEdges
pub mod Plain
