pub mod TransactionsBack
pub mod BatchesBack
pub mod BlocksBack
pub mod ReceiptsBack
pub mod SameTxs
pub mod Gathering
