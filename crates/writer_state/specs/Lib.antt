pub mod WriterState
pub mod Sound
