-- The glider over the ridge: what the old filter did, and a scene in which it loses the glider.
pub mod Nearest
pub mod Scene
