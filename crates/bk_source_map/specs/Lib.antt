-- Where the statements of a section come from in its source: read in this order.
pub mod Places
pub mod PlacedScheme
pub mod Laws
