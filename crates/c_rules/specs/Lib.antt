pub mod Climbs
pub mod Places
pub mod Free
pub mod Close
pub mod Emit
pub mod Sweep
pub mod Know
pub mod TSweep
