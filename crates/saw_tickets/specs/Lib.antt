pub mod TicketHistory
pub mod Seats
