pub mod TextEnd
pub mod Words
pub mod Gathering
pub mod Taking
pub mod WordLaws
pub mod Numerals
