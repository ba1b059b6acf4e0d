mod Climbs
mod Coordinated
mod Once
mod Outcomes
mod Streaming
