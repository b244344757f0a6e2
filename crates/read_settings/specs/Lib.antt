-- To believe: ReadSettings says what the call answers, with the ranks of its refusals; Rack proves that the rack's stretch is never a NaN nor an infinity.
pub mod ReadSettings
pub mod Rack
pub mod Laws
