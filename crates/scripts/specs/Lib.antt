pub mod Script
pub mod Text
pub mod Stage
pub mod Play
pub mod Stop
