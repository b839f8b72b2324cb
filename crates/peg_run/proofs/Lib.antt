mod Runs
mod Fronts
mod Feeds
mod Grows
mod Schedules
mod Answered
mod Headline
mod Limits
mod Unwired
mod Replayed
mod ReplayEnds
pub mod Verdicts
pub mod Soaks
mod RoleEnds
mod RackEnds
mod RacksEnds
