pub mod Bytes
pub mod Grammar
pub mod Summands
pub mod Denotes
pub mod Automaton
pub mod Reading
pub mod Canonical
pub mod Laws
