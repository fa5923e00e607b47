mod Alike
mod ClearShows
mod Instances
mod Placed
mod Planned
