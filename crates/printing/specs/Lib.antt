pub mod Decimal
pub mod Printed
pub mod Put
pub mod Widths
