pub mod Envelopes
pub mod RegisterMessages
pub mod ProcessMessages
pub mod StateMessages
pub mod EventMessages
pub mod LinkReadBack
