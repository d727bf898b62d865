pub mod BoardView
