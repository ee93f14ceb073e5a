mod Published
mod Sent
mod Room
mod Alone
mod Few
