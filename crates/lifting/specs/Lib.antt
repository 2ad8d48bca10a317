-- What the passes say by which the prices of all pairs rise together.
pub mod Slack
