pub mod JoinLog
