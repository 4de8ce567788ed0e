pub mod Given
pub mod Loading
