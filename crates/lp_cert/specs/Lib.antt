pub mod Case
pub mod Certificate
pub mod Program
