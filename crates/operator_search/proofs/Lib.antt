pub mod SmallGames
