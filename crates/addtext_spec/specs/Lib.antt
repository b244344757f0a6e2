-- To believe: Line says what comes of a line, Filling of the lines in turn; Grown what lines that are all taken leave.
pub mod Line
pub mod Filling
pub mod Grown
