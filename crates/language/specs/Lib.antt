-- To believe: Machine says which letters a machine accepts, Call what sayable answers.
pub mod Machine
pub mod Call
