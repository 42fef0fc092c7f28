pub mod HeadLists
pub mod Spelled
pub mod Layered
pub mod Knowing
pub mod NextFrame
pub mod Serves
