pub mod ReaderLaws
pub mod ItemLaws
pub mod PairLaws
pub mod Durable
pub mod WritingLaws
