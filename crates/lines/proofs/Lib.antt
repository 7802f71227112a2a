pub mod Parted
pub mod Scans
