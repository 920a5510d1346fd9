-- What sources mean, and what the steps of OCODE do on the statements that the scheme gives: read in this order.
pub mod GoingOn
pub mod Regular
pub mod Placement
pub mod Simulation
