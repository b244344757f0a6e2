-- To believe: Sections says what form each section has. Places, cited by inner contracts alone, says where a table's phones stand.
pub mod Sections
pub mod Places
