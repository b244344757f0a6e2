pub mod ByArithmetic
