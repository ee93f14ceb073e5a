pub mod Words
pub mod Names
pub mod Tokens
pub mod Exponents
pub mod Reads
pub mod ReadsTerms
pub mod Printed
pub mod Codes
