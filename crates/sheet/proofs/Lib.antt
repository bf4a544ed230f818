pub mod Fair
pub mod LastTurn
pub mod Left
pub mod Limit
pub mod Refused
pub mod OnLiterals
pub mod RecordBytes
