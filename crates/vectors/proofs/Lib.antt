mod BoundedTests
mod Rootless
mod CodeWords
