pub mod Tests
pub mod TestLaws
pub mod OutputLaws
pub mod ResultLaws
pub mod Answers
