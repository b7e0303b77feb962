pub mod Decimal
pub mod Spells
