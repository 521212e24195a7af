pub mod DirectionTable
