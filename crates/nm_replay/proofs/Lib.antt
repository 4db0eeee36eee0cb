pub mod LedgerLemmas
pub mod LimitLemmas
pub mod PlainLemmas
pub mod ReplyLemmas
