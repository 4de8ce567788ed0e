pub mod Lists
pub mod Program
