pub mod Bytes
pub mod Frames
pub mod Lengths
pub mod Lent
pub mod Spans
pub mod Requests
pub mod Written
pub mod Serving
pub mod Appended
pub mod Taken
pub mod Requested
pub mod Beginning
pub mod Opened
mod FaultExamples
mod LentExamples
mod SyncExamples
mod StopExamples
mod OutputExamples
mod VersionExamples
