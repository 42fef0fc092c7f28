pub mod EntryLists
pub mod Places
pub mod MemoryFrames
pub mod Contents
pub mod LinkRuns
pub mod Steps
pub mod Stops
pub mod Leaving
