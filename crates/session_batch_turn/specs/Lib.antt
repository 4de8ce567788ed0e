pub mod Turn
