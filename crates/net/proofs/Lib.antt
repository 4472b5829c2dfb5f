pub mod BoundsHeld
pub mod States
pub mod Outcomes
pub mod Soundness
pub mod RankingWhole
pub mod Closings
pub mod Neighbourhoods
pub mod Askings
