pub mod Asking
mod Running
mod Telling
mod RunExamples
mod SyncExamples
