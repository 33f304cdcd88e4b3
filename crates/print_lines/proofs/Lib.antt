pub mod Opened
mod Chains
