pub mod EnvelopesBack
pub mod RegistersBack
pub mod ProcessesBack
pub mod StateRequestsBack
pub mod StateResponsesBack
pub mod EventsBack
