pub mod CallEntry
pub mod PutBack
