-- Laws of the tokens of a text map. Assumes nothing.

pub mod Scans
pub mod QuoteRuns
pub mod Parts
pub mod Tokens
pub mod Forms
