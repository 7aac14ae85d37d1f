pub mod AnsweredRun
