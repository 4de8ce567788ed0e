pub mod Chain
pub mod Program
pub mod FromC
