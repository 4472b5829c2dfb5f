pub mod Orderings
pub mod Elimination
pub mod Ranking
pub mod Neighbours
pub mod Counted
pub mod Examples
