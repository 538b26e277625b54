-- Records: the unit record and the outcomes in numbers. Answers: the answers.
pub mod Records
pub mod Answers
