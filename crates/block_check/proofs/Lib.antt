mod Members
mod LegalLemmas
mod Stored
mod Blocks
