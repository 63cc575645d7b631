pub mod ChangeLemmas
pub mod EnteringLemmas
pub mod LaterLemmas
pub mod NamingLemmas
pub mod OpenHandleLemmas
pub mod RefusalLemmas
pub mod SlotLemmas
