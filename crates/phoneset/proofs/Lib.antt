pub mod ByNumber
pub mod RowNames
