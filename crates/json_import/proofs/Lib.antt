mod Tests
mod Skips
mod StringRuns
mod NumberShapes
mod NumberReach
mod NumberRuns
mod Runs
pub mod OneAnswer
mod Escapes
mod Tokens
mod Descends
mod Completes
mod Stops
pub mod EveryText
pub mod Marked
mod Scans
mod Places
mod EscapePlaces
mod StringPlaces
mod LeafPlaces
mod ValuePlaces
mod NextPlaces
mod ParsePlaces
pub mod ImportLaws
pub mod Demands
