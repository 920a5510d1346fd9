-- Views of what the code keeps, and what its contracts and its proofs need besides: no definition of the language.
pub mod CheckedSegment
pub mod Getting
pub mod Reach
pub mod LabelNumbers
pub mod Packing
pub mod Placed
pub mod Effects
pub mod Telling
pub mod Stops
