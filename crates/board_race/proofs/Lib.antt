pub mod Fall
